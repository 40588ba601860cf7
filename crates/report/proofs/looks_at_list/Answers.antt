use mathlib.Core.Path.{◌∙◌}
use Rattle.report.proofs.ReportLaws.{looked, ok_passes}
use Rattle.report.proofs.looks_at_list.Goals as goal

pub returns : goal.returns
returns c = c.is_ok.ensures.value ∙ ok_passes c.check_start.result ∙ looked _ _ _ c.memory_length.ensures c.check_start.ensures.check
