-- What an identifier means, where each place that is looked up has it or not.
-- For: means
use Rattle.std.proofs.Common.{◌≡◌, ◌∙◌, ℕ, List, [], ◌∷◌, refl, ap, Some, None}
use Rattle.ps_base.specs.declared.names.Name.{Name}
use Rattle.ps_pattern.specs.declared.binding.Binding.{Binding}
use Rattle.ps_pattern.specs.declared.binding.Binding.TheVariants as b
use Rattle.ps_scope.specs.Environments.{Env, found, defined}
use Rattle.ps_hygiene.specs.declared.meaning.Meant.{Meant}
use Rattle.ps_hygiene.specs.Worlds.{World, macro_of, home_of, structure_of}
use Rattle.ps_hygiene.specs.Meanings.{means, meant, meant_own, counted, first_of, or_meant, or_own}

-- what is looked up where nothing is found before
abbrev rest_of : World → Env → Name → List ℕ → ℕ → Meant
rest_of w around name [] k = or_meant (defined w.opened k (name.0 ∷ [])) (meant (b.Unbound name))
rest_of w around name (s ∷ stamps) k = means w around (structure_of w (macro_of w s)) (home_of w (macro_of w s)) name stamps

module _ (w : World) (around : Env) (k : ℕ) (env : Env) (name : Name) where
  first : (stamps : List ℕ) → means w around k env name stamps ≡ first_of w around k env (name.0 ∷ stamps) (rest_of w around name stamps k)
  first [] = refl
  first (s ∷ stamps) = refl

  module _ (stamps : List ℕ) where
    pub found_around : (x : Binding) → counted around (found env (name.0 ∷ stamps)) ≡ Some x → means w around k env name stamps ≡ meant x
    found_around x e = first stamps ∙ ap (λ o. or_meant o (or_own (defined w.own k (name.0 ∷ stamps)) (rest_of w around name stamps k))) e

    module _ (none : counted around (found env (name.0 ∷ stamps)) ≡ None) where
      behind : means w around k env name stamps ≡ or_own (defined w.own k (name.0 ∷ stamps)) (rest_of w around name stamps k)
      behind = first stamps ∙ ap (λ o. or_meant o (or_own (defined w.own k (name.0 ∷ stamps)) (rest_of w around name stamps k))) none

      pub found_own : (x : Binding) → defined w.own k (name.0 ∷ stamps) ≡ Some x → means w around k env name stamps ≡ meant_own x
      found_own x e = behind ∙ ap (λ o. or_own o (rest_of w around name stamps k)) e

      module _ (not_own : defined w.own k (name.0 ∷ stamps) ≡ None) where
        farther : means w around k env name stamps ≡ rest_of w around name stamps k
        farther = behind ∙ ap (λ o. or_own o (rest_of w around name stamps k)) not_own

        pub in_opened : stamps ≡ [] → means w around k env name stamps ≡ or_meant (defined w.opened k (name.0 ∷ [])) (meant (b.Unbound name))
        in_opened e = farther ∙ ap (λ ss. rest_of w around name ss k) e

        pub at_home : (s : ℕ) (rest : List ℕ) → stamps ≡ s ∷ rest → means w around k env name stamps ≡ means w around (structure_of w (macro_of w s)) (home_of w (macro_of w s)) name rest
        at_home s rest e = farther ∙ ap (λ ss. rest_of w around name ss k) e
