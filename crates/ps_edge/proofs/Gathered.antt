-- What a sink that gathers has taken does not change when it hands bytes on.
-- For: GatherSink::write, GatherSink::flush
use Rattle.std.proofs.Common.{◌≡◌, ℕ, ◌+◌, ◌-◌, List, [], ◌++◌, length, take, drop, refl, sym, ap, subst, ◌∙◌, append_assoc, arith, length-append}
use Rattle.std.specs.Option.{option_map}
use Rattle.std.proofs.lemmas.List.{take-append-drop, take_all, length-drop, drop-drop}
use Rattle.ps_base.specs.Numbers.{more}
use Rattle.ps_base.specs.SinkStates.{SinkState}
use Rattle.ps_base.specs.Sinks.{Appended}
use Rattle.ps_base.proofs.Writing.{bytes_join, number_join, bytes_same, number_same, appended_nothing, appended_join}
use Rattle.ps_edge.specs.Gatherings.{with_held, Hands}

-- more is held
pub kept : (s : SinkState) (held piece : List ℕ) → Appended (with_held s held) (with_held s (held ++ piece)) piece
kept s held piece = record {
  bytes = sym (bytes_join s.bytes held piece);
  number = sym (number_join s.number (length held) (length piece) (length (held ++ piece)) (length-append held piece));
  faults = omega arith;
}

-- a front of what was held was handed on
pub handed : (s t : SinkState) (held rest : List ℕ) → Hands s t held rest → Appended (with_held s held) (with_held t rest) []
handed s t held rest h = record {
  bytes = ap (option_map (λ bs. bs ++ rest)) h.appended.bytes ∙ bytes_join s.bytes h.front rest ∙ ap (λ xs. option_map (λ bs. bs ++ xs) s.bytes) (sym h.parts) ∙ bytes_same (option_map (λ bs. bs ++ held) s.bytes);
  number = ap (option_map (λ n. more n (length rest))) h.appended.number ∙ number_join s.number (length h.front) (length rest) (length held) (ap length h.parts ∙ length-append h.front rest) ∙ number_same (option_map (λ n. more n (length held)) s.number);
  faults = h.appended.faults;
}

-- nothing was held, and the sink behind took nothing
pub behind : (s t : SinkState) (held : List ℕ) → Appended s t [] → Appended (with_held s held) (with_held t held) []
behind s t held h = handed s t held held (record { front = []; parts = refl; appended = h })

-- nothing was handed on yet
pub hands_nothing : (s : SinkState) (held : List ℕ) → Hands s s held held
hands_nothing s held = record { front = []; parts = refl; appended = appended_nothing s }

-- after a front of what was held, so many bytes more were handed on
pub hands_more : (s t u : SinkState) (held rest left : List ℕ) (k : ℕ) → left ≡ drop k rest → Hands s t held rest → Appended t u (take k rest) → Hands s u held left
hands_more s t u held rest left k e h a = record {
  front = h.front ++ take k rest;
  parts = h.parts ∙ ap (λ (x : List ℕ). h.front ++ x) (sym (take-append-drop k rest) ∙ ap (λ (x : List ℕ). take k rest ++ x) (sym e)) ∙ sym (append_assoc h.front (take k rest) left);
  appended = appended_join s t u h.front (take k rest) h.appended a;
}

-- a call that takes nothing leaves what was handed on
pub hands_same : (s t u : SinkState) (held rest : List ℕ) → Hands s t held rest → Appended t u [] → Hands s u held rest
hands_same s t u held rest h a = hands_more s t u held rest rest 0 refl h a

-- the same, where the rest is what stands from a place on
pub hands_from : (s t u : SinkState) (held bytes : List ℕ) (at k n : ℕ) → n ≡ length bytes - at → Hands s t held (drop at bytes) → Appended t u (take k (take n (drop at bytes))) → Hands s u held (drop (at + k) bytes)
hands_from s t u held bytes at k n e h a =
    hands_more s t u held (drop at bytes) (drop (at + k) bytes) k (sym (drop-drop k at bytes)) h
    (subst (λ (x : List ℕ). Appended t u (take k x)) (take_all n (drop at bytes) (omega (arith, length-drop at bytes, e))) a)
