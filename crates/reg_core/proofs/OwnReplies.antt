-- Each reply of the abstract machine is a command reply (`IsCommandReply`).
use Rattle.std.proofs.Common.{◌≡◌, ◌≢◌, ℕ, Bool, true, List, [], ◌∷◌, false, refl, ap, get_or, sym, subst, ◌∙◌}
use Rattle.std.specs.Prelude.{Option, None, Some, Result, Ok, Err, if◌then◌else◌}
use Rattle.std.specs.Option.{ok_or}
use Rattle.std.specs.List.{last_or}
use Rattle.std.specs.Fmt.{digits}
use Rattle.std.proofs.lemmas.Bool.{eqb-false}
use Rattle.std.proofs.lemmas.Option.{none-some, same_Some}
use Rattle.avro_nodes.specs.Nodes.{NodeView}
use Rattle.reg_core.specs.declared.level.Level.{Level}
use Rattle.reg_core.specs.declared.mode.Mode.{Mode}
use Rattle.reg_core.specs.declared.number.VersionChoice.{VersionChoice}
use Rattle.reg_core.specs.declared.code.Code.{Code}
use Rattle.reg_core.specs.declared.code.Code.TheVariants.{KeyReused, SubjectNotFound, SubjectSoftDeleted, SubjectNotSoftDeleted, VersionSoftDeleted, VersionNotSoftDeleted, VersionNotFound, SchemaNotFound, InvalidSchema, InvalidVersion, InvalidLevel, InvalidMode, Incompatible, NotPermitted, NoNumberLeft}
use Rattle.reg_core.specs.Codes.{fault_body}
use Rattle.reg_core.specs.Replies.{ReplyView, IsKeptStatus, success, fault, IsCommandReply}
use Rattle.reg_core.specs.Registry.{Registry, Row}
use Rattle.reg_core.specs.Rows.{live_rows, chosen_row}
use Rattle.reg_core.specs.Settings.{Setting, level_setting, mode_setting, set}
use Rattle.reg_core.specs.ReadCommands.{Texts, found_row, lookup_row, rows_with_id, text_reply, version_reply, version_text_reply, id_reply, id_versions_reply, lookup_reply}
use Rattle.reg_core.specs.declared.number.VersionChoice.TheVariants.{Latest, Numbered}
use Rattle.reg_core.specs.Inside.Deleting.{subject_refusal}
use Rattle.reg_core.specs.DeletionCommands.{require_live, require_deleted, if_found, row_to_soft_delete, row_to_remove, row_to_delete}

other_status : (m n : ReplyView) → m.status ≢ n.status → m ≢ n
other_status m n ne e = ne (ap (λ (t : ReplyView). t.status) e)

pub success-IsCommandReply : (body : List ℕ) → IsCommandReply (success body)
success-IsCommandReply body = record {
  kept = refl;
  no_reused_key = other_status _ _ (eqb-false 200 422 refl);
}

-- a fault with status 404
pub not_found : (code : Code) → (fault code).status ≡ 404 → IsCommandReply (fault code)
not_found code e = record {
  kept = subst IsKeptStatus (sym e) refl;
  no_reused_key = other_status _ _ (λ h. eqb-false 404 422 refl (sym e ∙ h));
}

-- a fault with status 422 whose body differs from that of a reused key at this position
unprocessable : (code : Code) (position : ℕ) → (fault code).status ≡ 422 → get_or (fault code).body position 0 ≢ get_or (fault KeyReused).body position 0 → IsCommandReply (fault code)
unprocessable code position e ne = record {
  kept = subst IsKeptStatus (sym e) refl;
  no_reused_key = λ h. ne (ap (λ (t : ReplyView). get_or t.body position 0) h);
}

pub subject_not_found-IsCommandReply : IsCommandReply (fault SubjectNotFound)
subject_not_found-IsCommandReply = not_found SubjectNotFound refl

pub version_not_found-IsCommandReply : IsCommandReply (fault VersionNotFound)
version_not_found-IsCommandReply = not_found VersionNotFound refl

pub schema_not_found-IsCommandReply : IsCommandReply (fault SchemaNotFound)
schema_not_found-IsCommandReply = not_found SchemaNotFound refl

invalid_level-IsCommandReply : IsCommandReply (fault InvalidLevel)
unfolding fault_body digits
invalid_level-IsCommandReply = unprocessable InvalidLevel 17 refl (eqb-false 48 57 refl)

invalid_mode-IsCommandReply : IsCommandReply (fault InvalidMode)
unfolding fault_body digits
invalid_mode-IsCommandReply = unprocessable InvalidMode 17 refl (eqb-false 48 57 refl)

pub invalid_schema-IsCommandReply : IsCommandReply (fault InvalidSchema)
unfolding fault_body digits
invalid_schema-IsCommandReply = unprocessable InvalidSchema 17 refl (eqb-false 48 57 refl)

pub invalid_version-IsCommandReply : IsCommandReply (fault InvalidVersion)
unfolding fault_body digits
invalid_version-IsCommandReply = unprocessable InvalidVersion 17 refl (eqb-false 48 57 refl)

pub not_permitted-IsCommandReply : IsCommandReply (fault NotPermitted)
unfolding fault_body digits
not_permitted-IsCommandReply = unprocessable NotPermitted 17 refl (eqb-false 48 57 refl)

pub incompatible-IsCommandReply : IsCommandReply (fault Incompatible)
incompatible-IsCommandReply = record {
  kept = refl;
  no_reused_key = other_status _ _ (eqb-false 409 422 refl);
}

pub no_number_left-IsCommandReply : IsCommandReply (fault NoNumberLeft)
unfolding fault_body digits
no_number_left-IsCommandReply = unprocessable NoNumberLeft 18 refl (eqb-false 50 48 refl)

pub set-IsCommandReply : {A : Type 0} (s : Setting A) → IsCommandReply (fault s.unknown) → (g : Registry) (subject : Option (List ℕ)) (o : Option A) → IsCommandReply (set s g subject o).1
set-IsCommandReply s unknown g subject None = unknown
set-IsCommandReply s unknown g subject (Some value) = success-IsCommandReply _

pub set_level-IsCommandReply : (g : Registry) (subject : Option (List ℕ)) (o : Option Level) → IsCommandReply (set level_setting g subject o).1
set_level-IsCommandReply = set-IsCommandReply level_setting invalid_level-IsCommandReply

pub set_mode-IsCommandReply : (g : Registry) (subject : Option (List ℕ)) (o : Option Mode) → IsCommandReply (set mode_setting g subject o).1
set_mode-IsCommandReply = set-IsCommandReply mode_setting invalid_mode-IsCommandReply

pub text_reply-IsCommandReply : (body : List ℕ → List ℕ) (text : Option (List ℕ)) → IsCommandReply (text_reply body text)
text_reply-IsCommandReply body None = schema_not_found-IsCommandReply
text_reply-IsCommandReply body (Some text) = success-IsCommandReply _

-- the code of a missing version gives a command reply
abbrev pub HasOwnFault : Result Row Code → Type 0
HasOwnFault (Err code) = IsCommandReply (fault code)
HasOwnFault (Ok row) = Unit {0}

ok_or_fault : (row : Option Row) (code : Code) → IsCommandReply (fault code) → HasOwnFault (ok_or row code)
ok_or_fault None code own = own
ok_or_fault (Some row) code own = tt

pub found_row-fault : (choice : Option VersionChoice) (rows : List Row) → HasOwnFault (found_row choice rows)
found_row-fault None rows = invalid_version-IsCommandReply
found_row-fault (Some choice) [] = subject_not_found-IsCommandReply
found_row-fault (Some choice) (row ∷ rows) = ok_or_fault (chosen_row choice (row ∷ rows)) VersionNotFound version_not_found-IsCommandReply

pub lookup_row-fault : (known : Option ℕ) (rows : List Row) → HasOwnFault (lookup_row known rows)
lookup_row-fault known [] = subject_not_found-IsCommandReply
lookup_row-fault known (row ∷ rows) = ok_or_fault (last_or None (rows_with_id known (row ∷ rows))) SchemaNotFound schema_not_found-IsCommandReply

pub version_reply-IsCommandReply : (texts : Texts) (found : Result Row Code) → HasOwnFault found → IsCommandReply (version_reply texts found)
version_reply-IsCommandReply texts (Err code) own = own
version_reply-IsCommandReply texts (Ok row) own = text_reply-IsCommandReply _ (texts row.1.id)

pub version_text_reply-IsCommandReply : (texts : Texts) (found : Result Row Code) → HasOwnFault found → IsCommandReply (version_text_reply texts found)
version_text_reply-IsCommandReply texts (Err code) own = own
version_text_reply-IsCommandReply texts (Ok row) own = text_reply-IsCommandReply _ (texts row.1.id)

pub id_reply-IsCommandReply : (texts : Texts) (id : Option ℕ) (rows : List Row) → IsCommandReply (id_reply texts id rows)
id_reply-IsCommandReply texts None rows = schema_not_found-IsCommandReply
id_reply-IsCommandReply texts (Some id) [] = schema_not_found-IsCommandReply
id_reply-IsCommandReply texts (Some id) (row ∷ rows) = text_reply-IsCommandReply _ (texts id)

pub id_versions_reply-IsCommandReply : (id : Option ℕ) (deleted : Bool) (rows : List Row) → IsCommandReply (id_versions_reply id deleted rows)
id_versions_reply-IsCommandReply None deleted rows = schema_not_found-IsCommandReply
id_versions_reply-IsCommandReply (Some id) deleted [] = schema_not_found-IsCommandReply
id_versions_reply-IsCommandReply (Some id) deleted (row ∷ rows) = success-IsCommandReply _

pub lookup_reply-IsCommandReply : (texts : Texts) (schema : Option (List NodeView)) (known : Option ℕ) (rows : List Row) → IsCommandReply (lookup_reply texts schema known rows)
lookup_reply-IsCommandReply texts None known rows = invalid_schema-IsCommandReply
lookup_reply-IsCommandReply texts (Some nodes) known rows = version_reply-IsCommandReply texts (lookup_row known rows) (lookup_row-fault known rows)

-- the code of a rejected deletion gives a command reply
if_found-fault : (test : Row → Result Row Code) → ((row : Row) → HasOwnFault (test row)) → (found : Result Row Code) → HasOwnFault found → HasOwnFault (if_found test found)
if_found-fault test each (Err code) own = own
if_found-fault test each (Ok row) own = each row

require_live-fault : (row : Row) → HasOwnFault (require_live row)
require_live-fault row = by row.1.deleted
  where
    by : (b : Bool) → HasOwnFault (if b then Err VersionSoftDeleted else Ok row)
    by true = not_found VersionSoftDeleted refl
    by false = tt

require_deleted-fault : (row : Row) → HasOwnFault (require_deleted row)
require_deleted-fault row = by row.1.deleted
  where
    by : (b : Bool) → HasOwnFault (if b then Ok row else Err VersionNotSoftDeleted)
    by true = tt
    by false = not_found VersionNotSoftDeleted refl

row_to_soft_delete-fault : (choice : Option VersionChoice) (rows : List Row) → HasOwnFault (row_to_soft_delete choice rows)
row_to_soft_delete-fault None rows = invalid_version-IsCommandReply
row_to_soft_delete-fault (Some choice) [] = subject_not_found-IsCommandReply
row_to_soft_delete-fault (Some Latest) (row ∷ rows) = ok_or_fault (last_or None (live_rows (row ∷ rows))) SubjectSoftDeleted (not_found SubjectSoftDeleted refl)
row_to_soft_delete-fault (Some (Numbered number)) (row ∷ rows) =
    if_found-fault require_live require_live-fault (ok_or (chosen_row (Numbered number) (row ∷ rows)) VersionNotFound) (ok_or_fault (chosen_row (Numbered number) (row ∷ rows)) VersionNotFound version_not_found-IsCommandReply)

row_to_remove-fault : (choice : Option VersionChoice) (rows : List Row) → HasOwnFault (row_to_remove choice rows)
row_to_remove-fault choice rows = if_found-fault require_deleted require_deleted-fault (found_row choice rows) (found_row-fault choice rows)

pub row_to_delete-fault : (permanent : Bool) (choice : Option VersionChoice) (rows : List Row) → HasOwnFault (row_to_delete permanent choice rows)
row_to_delete-fault false choice rows = row_to_soft_delete-fault choice rows
row_to_delete-fault true choice rows = row_to_remove-fault choice rows

pub subject_refusal-fault : (permanent : Bool) (rows live : List Row) (code : Code) → Some code ≡ subject_refusal permanent rows live → IsCommandReply (fault code)
subject_refusal-fault permanent rows live code e = by permanent rows live e
  where
    refused : (why : Code) → Some code ≡ Some why → IsCommandReply (fault why) → IsCommandReply (fault code)
    refused why e own = subst (λ (c : Code). IsCommandReply (fault c)) (sym (same_Some code why e)) own

    by : (b : Bool) (rows live : List Row) → Some code ≡ subject_refusal b rows live → IsCommandReply (fault code)
    by false [] live e = refused SubjectNotFound e subject_not_found-IsCommandReply
    by false (row ∷ rows) [] e = refused SubjectSoftDeleted e (not_found SubjectSoftDeleted refl)
    by false (row ∷ rows) (one ∷ live) e = absurd (none-some code (sym e))
    by true [] live e = refused SubjectNotFound e subject_not_found-IsCommandReply
    by true (row ∷ rows) [] e = absurd (none-some code (sym e))
    by true (row ∷ rows) (one ∷ live) e = refused SubjectNotSoftDeleted e (not_found SubjectNotSoftDeleted refl)
