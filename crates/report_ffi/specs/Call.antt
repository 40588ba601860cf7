-- The number that the C function returns, and what it leaves in each buffer.
use Rattle.std.specs.Prelude.{ℕ, ◌≡◌, List, Ok, Err}
use Rattle.report.specs.Report.{Told, ReportCall}
use Rattle.report.specs.declared.NoReport.TheVariants.{ShortBuffer, WrongTrack, WrongCounts}

-- how long the report is, or why there is none
abbrev pub told_number : Told → ℕ
told_number (Ok n) = n
told_number (Err ShortBuffer) = 0x300000000
told_number (Err WrongTrack) = 0x300000001
told_number (Err WrongCounts) = 0x300000002

pub record GivesCall (y : ReportCall) (x : ℕ) (i t d : List ℕ) : Type 0 where
  pub number : x ≡ told_number y.told
  pub image : i ≡ y.image
  pub track : t ≡ y.track
  pub out : d ≡ y.out
