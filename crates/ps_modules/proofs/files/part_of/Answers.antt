use Rattle.std.proofs.Common.{◌∙◌}
use Rattle.ps_modules.proofs.PartsAreGathered.{part_forms, ungathered_lost, all_stay_same}
use Rattle.ps_modules.proofs.files.part_of.Goals as goal

pub returns-in-Ok : goal.returns-in-Ok
returns-in-Ok g c = part_forms _ _ _ _ _ _ _ c.in-Forms.is c.requires.taken (c.in-Ok.ensures ∙ c.as_slice.ensures)

pub returns-in-Err : goal.returns-in-Err
returns-in-Err g c = ungathered_lost _ _ _ _ _ _ (all_stay_same _)
