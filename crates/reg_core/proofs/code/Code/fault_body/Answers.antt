use Rattle.std.proofs.Common.{rules}
use Rattle.std.specs.Fmt.{digits}
use Rattle.reg_core.specs.Codes.{fault_body}
use Rattle.reg_core.proofs.code.Code.fault_body.Goals as goal

pub returns-in-MalformedRequest : goal.returns-in-MalformedRequest
unfolding fault_body digits
returns-in-MalformedRequest c = search rules

pub returns-in-NotFound : goal.returns-in-NotFound
unfolding fault_body digits
returns-in-NotFound c = search rules

pub returns-in-SubjectNotFound : goal.returns-in-SubjectNotFound
unfolding fault_body digits
returns-in-SubjectNotFound c = search rules

pub returns-in-VersionNotFound : goal.returns-in-VersionNotFound
unfolding fault_body digits
returns-in-VersionNotFound c = search rules

pub returns-in-SchemaNotFound : goal.returns-in-SchemaNotFound
unfolding fault_body digits
returns-in-SchemaNotFound c = search rules

pub returns-in-SubjectSoftDeleted : goal.returns-in-SubjectSoftDeleted
unfolding fault_body digits
returns-in-SubjectSoftDeleted c = search rules

pub returns-in-SubjectNotSoftDeleted : goal.returns-in-SubjectNotSoftDeleted
unfolding fault_body digits
returns-in-SubjectNotSoftDeleted c = search rules

pub returns-in-VersionSoftDeleted : goal.returns-in-VersionSoftDeleted
unfolding fault_body digits
returns-in-VersionSoftDeleted c = search rules

pub returns-in-VersionNotSoftDeleted : goal.returns-in-VersionNotSoftDeleted
unfolding fault_body digits
returns-in-VersionNotSoftDeleted c = search rules

pub returns-in-NoOwnLevel : goal.returns-in-NoOwnLevel
unfolding fault_body digits
returns-in-NoOwnLevel c = search rules

pub returns-in-NoOwnMode : goal.returns-in-NoOwnMode
unfolding fault_body digits
returns-in-NoOwnMode c = search rules

pub returns-in-MethodNotAllowed : goal.returns-in-MethodNotAllowed
unfolding fault_body digits
returns-in-MethodNotAllowed c = search rules

pub returns-in-Incompatible : goal.returns-in-Incompatible
unfolding fault_body digits
returns-in-Incompatible c = search rules

pub returns-in-BodyTooLarge : goal.returns-in-BodyTooLarge
unfolding fault_body digits
returns-in-BodyTooLarge c = search rules

pub returns-in-InvalidSchema : goal.returns-in-InvalidSchema
unfolding fault_body digits
returns-in-InvalidSchema c = search rules

pub returns-in-InvalidVersion : goal.returns-in-InvalidVersion
unfolding fault_body digits
returns-in-InvalidVersion c = search rules

pub returns-in-InvalidLevel : goal.returns-in-InvalidLevel
unfolding fault_body digits
returns-in-InvalidLevel c = search rules

pub returns-in-InvalidMode : goal.returns-in-InvalidMode
unfolding fault_body digits
returns-in-InvalidMode c = search rules

pub returns-in-NotPermitted : goal.returns-in-NotPermitted
unfolding fault_body digits
returns-in-NotPermitted c = search rules

pub returns-in-KeyReused : goal.returns-in-KeyReused
unfolding fault_body digits
returns-in-KeyReused c = search rules

pub returns-in-NoNumberLeft : goal.returns-in-NoNumberLeft
unfolding fault_body digits
returns-in-NoNumberLeft c = search rules

pub returns-in-TransferCodingNotSupported : goal.returns-in-TransferCodingNotSupported
unfolding fault_body digits
returns-in-TransferCodingNotSupported c = search rules

pub returns-in-BackendFault : goal.returns-in-BackendFault
unfolding fault_body digits
returns-in-BackendFault c = search rules
