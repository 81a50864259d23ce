-- Reading back what the tables spell.
use Rattle.std.proofs.Common.{◌≡◌, List, ℕ, Option, Some, None, codes, refl, sym, ap, ◌∙◌}
use Rattle.std.specs.Prelude.{String, string_bytes, option_map, MatchOption}
use Rattle.std.specs.declared.alloc.Global.{Global}
use Rattle.std.specs.FinMap.{get}
use Rattle.reg_core.specs.declared.level.Level.{Level}
use Rattle.reg_core.specs.declared.level.Level.TheVariants.{Backward, BackwardTransitive, Forward, ForwardTransitive, Full, FullTransitive, Off}
use Rattle.reg_core.specs.Levels.{level_text, level_of}
use Rattle.reg_core.specs.Stored.{Stored}
use Rattle.reg_core.specs.declared.mode.Mode.{Mode}
use Rattle.reg_core.specs.declared.mode.Mode.TheVariants.{Readwrite, Readonly}
use Rattle.reg_core.specs.Modes.{mode_text, mode_of}
use Rattle.reg_tables.specs.Contents.{text_cmp, KeptReplyView, Contents}
use Rattle.reg_tables.proofs.MapLemmas.{get-insert-same, get-insert-other}
use Rattle.reg_tables.proofs.KeyedTables.{text_order}
use Rattle.reg_core.specs.KeptReplies.{KeptEntry}
use Rattle.reg_store.specs.Spells.{IsSpelledLayoutTwo, stored_reply}
use Rattle.reg_store.proofs.SpelledTwo.{other_name}

pub level_of-level_text : (level : Level) → level_of (level_text level) ≡ Some level
level_of-level_text Backward = refl
level_of-level_text BackwardTransitive = refl
level_of-level_text Forward = refl
level_of-level_text ForwardTransitive = refl
level_of-level_text Full = refl
level_of-level_text FullTransitive = refl
level_of-level_text Off = refl

pub level_is : (text : List ℕ) (read written : Level) → text ≡ level_text written → level_of text ≡ Some read → read ≡ written
level_is text read written is spells = let same : Some read ≡ Some written = sym spells ∙ ap level_of is ∙ level_of-level_text written in cc

pub none_written : {V W : Type 0} (write : V → W) (o : Option V) → option_map write o ≡ None → o ≡ None
none_written write None h = refl
none_written write (Some v) h = absurd (cc)

pub text_there_is : (found : Option (String Global)) (there : Option (List ℕ)) → MatchOption found (there ≡ None) (λ text. there ≡ Some (string_bytes text)) → option_map string_bytes found ≡ there
text_there_is None there h = sym h
text_there_is (Some text) there h = sym h

pub kept_is : (o : Option KeptEntry) (entry : KeptEntry) → option_map stored_reply o ≡ Some (stored_reply entry) → o ≡ Some entry
kept_is None entry h = absurd (cc)
kept_is (Some e) entry h =
    let same : stored_reply e ≡ stored_reply entry = cc in
    let text : e.command ≡ entry.command = ap (λ (r : KeptReplyView). r.command) same in
    let status : e.reply.status ≡ entry.reply.status = ap (λ (r : KeptReplyView). r.status) same in
    let body : e.reply.body ≡ entry.reply.body = ap (λ (r : KeptReplyView). r.body) same in
    λ i. Some (record { command = text i; reply = record { status = status i; body = body i } })

pub mode_of-mode_text : (mode : Mode) → mode_of (mode_text mode) ≡ Some mode
mode_of-mode_text Readwrite = refl
mode_of-mode_text Readonly = refl

pub mode_is : (text : List ℕ) (read written : Mode) → text ≡ mode_text written → mode_of text ≡ Some read → read ≡ written
mode_is text read written is spells = let same : Some read ≡ Some written = sym spells ∙ ap mode_of is ∙ mode_of-mode_text written in cc

module _ (contents : Contents) (was : Stored) (s : IsSpelledLayoutTwo contents was) where
  pub global_is : get contents.meta (codes "global") ≡ Some (level_text was.registry.global)
  global_is =
      ap (λ m. get m (codes "global")) s.meta ∙ get-insert-other text_cmp text_order _ (codes "mode") (mode_text was.registry.global_mode) (codes "global") other_name
      ∙ get-insert-same text_cmp text_order _ (codes "global") (level_text was.registry.global)

  pub global_mode_is : get contents.meta (codes "mode") ≡ Some (mode_text was.registry.global_mode)
  global_mode_is = ap (λ m. get m (codes "mode")) s.meta ∙ get-insert-same text_cmp text_order _ (codes "mode") (mode_text was.registry.global_mode)
