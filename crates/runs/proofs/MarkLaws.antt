-- A stage that was marked is read back.
use mathlib.Core.Path.{◌≡◌, refl}
use Rattle.rules.specs.declared.End.TheVariants.{Faulty, Unsorted, NoRoom, NoRows}
use Rattle.rules.specs.declared.Stage.{Stage}
use Rattle.rules.specs.declared.Stage.TheVariants.{Fresh, After, Over}
use Rattle.runs.specs.Marks.{stage_in, mark_of}

pub stage_back : (t : Stage) → stage_in (mark_of t) ≡ t
stage_back Fresh = refl
stage_back (After b) = refl
stage_back (Over (Faulty s k)) = refl
stage_back (Over (Unsorted s k)) = refl
stage_back (Over NoRoom) = refl
stage_back (Over NoRows) = refl
