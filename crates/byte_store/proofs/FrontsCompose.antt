-- A front of a front is a front, and two fronts of one list of events are one the front of the other.
-- For: agree_is_transitive, progress_gives_agree, following_gives_agree
use Rattle.std.proofs.Common.{◌≡◌, List, [], ◌∷◌, ◌++◌, refl, sym, ap, ◌∙◌, subst, inl, inr, ⊎_elim, append_assoc}
use Rattle.std.specs.Prelude.{◌⊎◌}
use Rattle.std.proofs.lemmas.List.{append-nil}
use Rattle.byte_store.specs.declared.event.Event.{Event}
use Rattle.byte_store.specs.Outcome.{Begins}

pub begins_self : (t : List Event) → Begins t t
begins_self t = record { rest = []; is = sym (append-nil t) }

pub begins_eq : (t u : List Event) → t ≡ u → Begins t u
begins_eq t u e = subst (λ (v : List Event). Begins t v) e (begins_self t)

pub begins_trans : (t u v : List Event) → Begins t u → Begins u v → Begins t v
begins_trans t u v a b =
    record { rest = a.rest ++ b.rest; is = b.is ∙ ap (λ l. l ++ b.rest) a.is ∙ append_assoc t a.rest b.rest }

comparable_by : (t u r s : List Event) → t ++ r ≡ u ++ s → Begins t u ⊎ Begins u t
comparable_by [] u r s e = inl (record { rest = u; is = refl })
comparable_by (x ∷ t) [] r s e = inr (record { rest = x ∷ t; is = refl })
comparable_by (x ∷ t) (y ∷ u) r s e =
    let heads : x ≡ y = cc in
    let tails : t ++ r ≡ u ++ s = cc in
    ⊎_elim
    (λ (b : Begins t u). inl (record { rest = b.rest; is = ap (λ l. y ∷ l) b.is ∙ ap (λ z. z ∷ (t ++ b.rest)) (sym heads) }))
    (λ (b : Begins u t). inr (record { rest = b.rest; is = ap (λ l. x ∷ l) b.is ∙ ap (λ z. z ∷ (u ++ b.rest)) heads }))
    (comparable_by t u r s tails)

-- of two fronts of one list, one is a front of the other
pub comparable : (t u whole : List Event) → Begins t whole → Begins u whole → Begins t u ⊎ Begins u t
comparable t u whole a b = comparable_by t u a.rest b.rest (sym a.is ∙ b.is)
