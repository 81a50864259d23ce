use Rattle.std.proofs.Common.{ap}
use Rattle.reg_jobs.specs.Outcomes.{text_of_line}
use Rattle.reg_jobs.proofs.line.line_with.Goals as goal

pub returns-in-OldLayout : goal.returns-in-OldLayout
returns-in-OldLayout c = rw c.in-OldLayout.is (ap text_of_line c.file_line-in-OldLayout.ensures)

pub returns-in-NewerLayout : goal.returns-in-NewerLayout
returns-in-NewerLayout c = rw c.in-NewerLayout.is (ap text_of_line c.file_line-in-NewerLayout.ensures)

pub returns-in-CannotListen : goal.returns-in-CannotListen
returns-in-CannotListen c = rw c.in-CannotListen.is (ap text_of_line c.file_line-in-CannotListen.ensures)
