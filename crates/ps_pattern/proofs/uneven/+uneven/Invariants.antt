use Rattle.std.proofs.Common.{◌≡◌, map, take, false}
use Rattle.std.specs.Prelude.{is_none}
use Rattle.std.specs.List.{range_with_len}
use Rattle.std.specs.Option.{option_map}
use Rattle.ps_pattern.specs.Filling.{filled, filled_part, in_order, single, at_step}
use Rattle.ps_pattern.proofs.uneven.+uneven.Given as goal

abbrev pub invariant-some_uneven-loop-part : goal.invariant-some_uneven-loop-part
invariant-some_uneven-loop-part l = is_none (in_order (take l.part-index (map (λ p. filled_part l.stamp l.place p l.binds) l.parts))) ≡ false

abbrev pub invariant-some_step_uneven-loop-i : goal.invariant-some_step_uneven-loop-i
invariant-some_step_uneven-loop-i l = is_none (in_order (take l.i (map (λ k. option_map single (filled l.stamp l.place l.t (at_step l.binds k))) (range_with_len 0 l.n)))) ≡ false
