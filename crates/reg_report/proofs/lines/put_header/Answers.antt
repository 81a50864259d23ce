use Rattle.reg_report.proofs.lines.put_header.Goals as goal

pub returns-in-Subjects : goal.returns-in-Subjects
returns-in-Subjects g c = rw c.in-Subjects.is c.put_line.ensures

pub returns-in-Versions : goal.returns-in-Versions
returns-in-Versions g c = rw c.in-Versions.is c.put_line-in-Versions.ensures
