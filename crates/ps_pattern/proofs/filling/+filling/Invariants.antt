use Rattle.std.proofs.Common.{◌≡◌, ◌+◌, map, take, Some}
use Rattle.std.specs.List.{range_with_len}
use Rattle.std.specs.Option.{option_map}
use Rattle.ps_pattern.specs.Filling.{filled, filled_part, in_order, sizes, single, at_step}
use Rattle.ps_pattern.proofs.filling.+filling.Given as goal

abbrev pub invariant-fill_parts-loop-part : goal.invariant-fill_parts-loop-part
invariant-fill_parts-loop-part l = (in_order (take l.part-index (map (λ p. filled_part l.stamp l.place p l.binds) l.parts)) ≡ Some l.forms) × (l.left + sizes l.forms ≡ l.initial.left)

abbrev pub invariant-fill_steps-loop-i : goal.invariant-fill_steps-loop-i
invariant-fill_steps-loop-i l = (in_order (take l.i (map (λ k. option_map single (filled l.stamp l.place l.t (at_step l.binds k))) (range_with_len 0 l.n))) ≡ Some l.forms) × (l.left + sizes l.forms ≡ l.initial.left)
