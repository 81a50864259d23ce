use Rattle.std.proofs.Common.{◌<◌, length, map, arith}
use Rattle.std.proofs.lemmas.List.{length-map}
use Rattle.reg_core.specs.Registry.{Row}
use Rattle.reg_tables.specs.declared.listed.ListedVersion.{ListedVersion}
use Rattle.reg_tables.specs.Entries.{listed_version_view, versions_limit}
use Rattle.reg_store.specs.Inside.Viewing.{row_spelled}
use Rattle.reg_store.proofs.KnownLemmas.{last_is_told}
use Rattle.reg_store.proofs.ReadLemmas.{fail, go_on, match_each, tell}
use Rattle.reg_store.proofs.store.last_with_id.line_with_id.Goals as goal

pub returns-in_err-lines : goal.returns-in_err-lines
returns-in_err-lines g c = fail c.in_err-lines.ensures c.from_residual.ensures.1

abbrev line_row : ListedVersion → Row
line_row line = row_spelled (listed_version_view line)

pub returns-then-len-lt-VERSIONS_LIMIT : goal.returns-then-len-lt-VERSIONS_LIMIT
returns-then-len-lt-VERSIONS_LIMIT g c =
    let lines = c.in_ok-lines.lines in
    let few : length (map line_row lines.items) < versions_limit = omega (arith, c.if-len-lt-VERSIONS_LIMIT.true, c.len.ensures, lines.ok.0, length-map lines.items line_row) in
    tell c.in_ok-lines.ensures (λ was over some. last_is_told was.registry c.args.subject.now c.args.shows_deleted c.args.id (map line_row lines.items) some few _ c.last_among.ensures)

pub returns : goal.returns
returns g c = go_on c.in_ok-lines.ensures c.line_of_subject.ensures.may (λ was over some. match_each c.line_of_subject.result (λ found is. is) (λ e h. h))
