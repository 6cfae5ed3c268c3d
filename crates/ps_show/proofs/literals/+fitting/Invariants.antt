use Rattle.std.proofs.Common.{◌≡◌, ℕ, Bool, drop, map}
use Rattle.std.specs.List.{list_all}
use Rattle.ps_show.specs.ShowText.{fits}
use Rattle.ps_show.proofs.literals.+fitting.Given as goal

-- all fit where the rest do
abbrev pub invariant-all_fit-loop-d : goal.invariant-all_fit-loop-d
invariant-all_fit-loop-d l = list_all (λ (f : ℕ → Bool). f l.levels) (map fits l.ds) ≡ list_all (λ (f : ℕ → Bool). f l.levels) (map fits (drop l.d-index l.ds))
