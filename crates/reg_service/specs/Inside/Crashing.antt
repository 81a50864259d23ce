-- What a crash may leave of one exchange. (Everything here is this project's choice.)
use Rattle.std.specs.Prelude.{◌≡◌, ◌⊎◌, IsTrue, [], ◌∷◌}
use Rattle.sqlite.specs.Tree.{Trees}
use Rattle.reg_core.specs.declared.code.Code.TheVariants.{BackendFault}
use Rattle.reg_core.specs.declared.delivery.Delivery.{Delivery}
use Rattle.reg_core.specs.Machine.{step}
use Rattle.reg_core.specs.Replies.{ReplyView, fault}
use Rattle.reg_core.specs.Stored.{Stored}
use Rattle.reg_service.specs.Deliveries.{is_first, served}
use Rattle.reg_service.specs.Crashes.{RecoversExchanges}

-- a first delivery got 50001, and each database that a crash may leave has it with the abstract machine's reply, or lacks it
pub record RecoversOneInFlight (was : Stored) (d : Delivery) (reply : ReplyView) (may_leave : Trees → Type 0) : Type 0 where
  pub unserved : reply ≡ fault BackendFault
  pub first : IsTrue (is_first was.replies [] d)
  pub leaves : (db : Trees) → may_leave db
      → RecoversExchanges was (served ((d, reply) ∷ [])) db ⊎ RecoversExchanges was ((d, (step was.registry d.command).1) ∷ []) db

-- a crash preserves the exchange if it was acknowledged, and may preserve a delivery that got 50001
abbrev pub RecoversOne : Stored → Delivery → ReplyView → (Trees → Type 0) → Type 0
RecoversOne was d reply may_leave = ((db : Trees) → may_leave db → RecoversExchanges was (served ((d, reply) ∷ [])) db) ⊎ RecoversOneInFlight was d reply may_leave
