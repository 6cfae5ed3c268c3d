-- One text is read after another.
-- For: read_text
use Rattle.std.proofs.Common.{◌≡◌, ℕ, ◌+◌, ◌≤◌, List, [], ◌++◌, length, Option, Some, None, Result, Ok, Err, refl, sym, ap, ◌∙◌, append_assoc, arith, length-append}
use Rattle.std.specs.Option.{option_map}
use Rattle.ps_base.specs.Numbers.{more}
use Rattle.ps_edge.specs.SourceStates.{SourceState}
use Rattle.ps_edge.specs.Sources.{Taking, ReadsText}
use Rattle.ps_edge.specs.declared.source.TextFault.{TextFault}
use Rattle.ps_edge.specs.declared.source.TextFault.TheVariants as fault
use Rattle.std.specs.Result.{IsErrAnd}

left_same : (o : Option (List ℕ)) → o ≡ option_map (λ rest. [] ++ rest) o
left_same None = refl
left_same (Some rest) = refl

pub taking_nothing : (s : SourceState) → Taking s s []
taking_nothing s = record { left = left_same s.left; given = omega arith; faults = omega arith }

left_join : (o : Option (List ℕ)) (a b : List ℕ) → option_map (λ rest. a ++ rest) (option_map (λ rest. b ++ rest) o) ≡ option_map (λ rest. (a ++ b) ++ rest) o
left_join None a b = refl
left_join (Some rest) a b = ap (λ (x : List ℕ). Some x) (sym (append_assoc a b rest))

given_join : (n a b c : ℕ) → c ≡ a + b → more (more n a) b ≡ more n c
given_join n a b c e = omega arith

pub taking_join : (s t u : SourceState) (a b : List ℕ) → Taking s t a → Taking t u b → Taking s u (a ++ b)
taking_join s t u a b h k = record {
  left = h.left ∙ ap (option_map (λ rest. a ++ rest)) k.left ∙ left_join u.left a b;
  given = k.given ∙ ap (λ n. more n (length b)) h.given ∙ given_join s.given (length a) (length b) (length (a ++ b)) (length-append a b);
  faults = let x = h.faults in let y = k.faults in omega arith;
}

-- want of memory after these bytes were taken
pub no_memory : (s t : SourceState) (limit : ℕ) (bytes : List ℕ) (r : Result (List ℕ) TextFault) → IsErrAnd r (λ e. e ≡ fault.NoMemory) → Taking s t bytes → length bytes ≤ limit → ReadsText s t limit r
no_memory s t limit bytes (Ok text) e h w = absurd e
no_memory s t limit bytes (Err fault.Failed) e h w = let x : fault.Failed ≡ fault.NoMemory = e in absurd (cc)
no_memory s t limit bytes (Err fault.TooLong) e h w = let x : fault.TooLong ≡ fault.NoMemory = e in absurd (cc)
no_memory s t limit bytes (Err fault.NoMemory) e h w = (bytes, h, w)
