-- What the tables of both layouts spell.
use Rattle.sqlite.specs.Schema.{Schema}
use Rattle.sqlite.specs.Effect.{Database}
use Rattle.reg_core.specs.Stored.{Stored}
use Rattle.reg_tables.specs.Layout.{HasFiveTables}
use Rattle.reg_tables.specs.Contents.{Contents, HoldsContents}
use Rattle.reg_tables.proofs.Tables.{openable_has_eight, eight_has_five, two_has_eight}
use Rattle.reg_tables.proofs.Statements.{one_has_five}
use Rattle.reg_store.specs.Spells.{IsSpelled, SpellsLayoutOne, Spells, SpellsUnopened}
use Rattle.reg_store.specs.Inside.Reads.{SpellsBase}
use Rattle.reg_store.specs.Inside.TableChecks.{SpellsSome}
use Rattle.reg_store.proofs.Readable.{one_readable, all_readable}

pub record SpellsTables (db : Database) (was : Stored) : Type 0 where
  pub schema : Schema
  pub first : HasFiveTables schema
  pub contents : Contents
  pub holds : HoldsContents schema db contents
  pub spelled : IsSpelled contents was.registry was.replies

module _ {db : Database} {was : Stored} where
  pub base_of : Spells db was → SpellsTables db was
  base_of s = record { schema = s.schema; first = eight_has_five s.schema (two_has_eight s.schema s.known); contents = s.contents; holds = s.holds; spelled = s.spelled.base }

  pub base_unopened : SpellsUnopened db was → SpellsBase db was
  base_unopened s =
      let tables = openable_has_eight s.schema s.known in
      record { schema = s.schema; first = eight_has_five s.schema tables; contents = s.contents; holds = s.holds; readable = all_readable db was s tables; spelled = s.spelled.base }

  pub base_of_one : SpellsLayoutOne db was → SpellsBase db was
  base_of_one s = record { schema = s.schema; first = one_has_five s.schema s.known; contents = s.contents; holds = s.holds; readable = one_readable db was s; spelled = s.spelled.base }

module _ {db : Database} where
  pub some_unopened : SpellsSome SpellsUnopened db → SpellsSome SpellsBase db
  some_unopened s = record { stored = s.stored; spells = base_unopened s.spells }

  pub some_of_one : SpellsSome SpellsLayoutOne db → SpellsSome SpellsBase db
  some_of_one s = record { stored = s.stored; spells = base_of_one s.spells }
