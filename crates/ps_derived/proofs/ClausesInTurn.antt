-- Clauses read one by one.
-- For: cond_clauses, case_clauses
use Rattle.std.proofs.Common.{◌≡◌, ℕ, ◌+◌, List, [], ◌∷◌, ◌++◌, map, drop, refl, ap, sym, ◌∙◌, Bool, true, false, Option, Some, None, append_assoc, append-nil}
use Rattle.std.specs.Prelude.{if◌then◌else◌, slice_get}
use Rattle.std.specs.Option.{option_map, option_and_then}
use Rattle.std.proofs.lemmas.List.{map-append}
use Rattle.ps_pattern.specs.declared.syntax.Syntax.{Syntax}
use Rattle.ps_pattern.proofs.Rests.{drop_at}
use Rattle.ps_derived.specs.Clauses.{ClausesOf, clauses_by, in_front, else_last, else_body, ended_by, put_first}

module _ {A B : Type 0} (one : Syntax → Option A) (is_else : Syntax → Bool) (see : B → A) where
  -- clauses stand in front of what comes behind them
  abbrev pub put : List A → Option (ClausesOf A) → Option (ClausesOf A)
  put cs x = option_map (in_front cs) x

  put_none : (x : Option (ClausesOf A)) → put [] x ≡ x
  put_none None = refl
  put_none (Some x) = refl

  put_put : (cs : List A) (c : A) (x : Option (ClausesOf A)) → put cs (put (c ∷ []) x) ≡ put (cs ++ c ∷ []) x
  put_put cs c None = refl
  put_put cs c (Some x) = ap (λ z. Some (record { clauses = z; last = x.last })) (sym (append_assoc cs (c ∷ []) x.clauses))

  pub record ClausesSo (fs : List Syntax) (i : ℕ) (clauses : List B) : Type 0 where
    pub is : clauses_by one is_else fs ≡ put (map see clauses) (clauses_by one is_else (drop i fs))

  pub starts : (fs : List Syntax) (clauses : List B) → clauses ≡ [] → ClausesSo fs 0 clauses
  starts fs clauses e = record { is = sym (ap (λ z. put (map see z) (clauses_by one is_else fs)) e ∙ put_none (clauses_by one is_else fs)) }

  abbrev chosen : Bool → Option A → Syntax → List Syntax → Option (ClausesOf A)
  chosen b x f rest = if b then else_last f rest else option_and_then (put_first (clauses_by one is_else rest)) x

  step : (fs : List Syntax) (i : ℕ) (f : Syntax) (clauses : List B) → ClausesSo fs i clauses → slice_get fs i ≡ Some f → clauses_by one is_else fs ≡ put (map see clauses) (chosen (is_else f) (one f) f (drop (i + 1) fs))
  step fs i f clauses inv e = inv.is ∙ ap (λ z. put (map see clauses) (clauses_by one is_else z)) (drop_at fs i f e)

  pub goes_on : (fs : List Syntax) (i : ℕ) (f : Syntax) (clauses new : List B) (c : B) → ClausesSo fs i clauses → slice_get fs i ≡ Some f → is_else f ≡ false → one f ≡ Some (see c) → new ≡ clauses ++ c ∷ [] → ClausesSo fs (i + 1) new
  goes_on fs i f clauses new c inv e other k is =
      let rest : List Syntax = drop (i + 1) fs in
      let so : map see new ≡ map see clauses ++ see c ∷ [] = ap (map see) is ∙ map-append see clauses (c ∷ []) in
      record { is = step fs i f clauses inv e ∙ ap (λ b. put (map see clauses) (chosen b (one f) f rest)) other ∙ ap (λ x. put (map see clauses) (chosen false x f rest)) k ∙ put_put (map see clauses) (see c) (clauses_by one is_else rest) ∙ ap (λ z. put z (clauses_by one is_else rest)) (sym so) }

  pub breaks : (fs : List Syntax) (i : ℕ) (f : Syntax) (clauses : List B) → ClausesSo fs i clauses → slice_get fs i ≡ Some f → is_else f ≡ false → one f ≡ None → clauses_by one is_else fs ≡ None
  breaks fs i f clauses inv e other k =
      let rest : List Syntax = drop (i + 1) fs in
      step fs i f clauses inv e ∙ ap (λ b. put (map see clauses) (chosen b (one f) f rest)) other ∙ ap (λ x. put (map see clauses) (chosen false x f rest)) k

  abbrev pub ended : List A → Option (List Syntax) → Option (ClausesOf A)
  ended cs body = option_map (λ es. record { clauses = cs; last = Some es }) body

  put_ended : (cs : List A) (body : Option (List Syntax)) → put cs (option_map ended_by body) ≡ ended cs body
  put_ended cs None = refl
  put_ended cs (Some es) = ap (λ z. Some (record { clauses = z; last = Some es })) (append-nil cs)

  pub ends_in_else : (fs : List Syntax) (i : ℕ) (f : Syntax) (clauses : List B) → ClausesSo fs i clauses → slice_get fs i ≡ Some f → is_else f ≡ true → clauses_by one is_else fs ≡ ended (map see clauses) (else_body f (drop (i + 1) fs))
  ends_in_else fs i f clauses inv e is_last =
      step fs i f clauses inv e ∙ ap (λ b. put (map see clauses) (chosen b (one f) f (drop (i + 1) fs))) is_last ∙ put_ended (map see clauses) (else_body f (drop (i + 1) fs))

  pub ends : (fs : List Syntax) (i : ℕ) (clauses : List B) → ClausesSo fs i clauses → drop i fs ≡ [] → clauses_by one is_else fs ≡ Some (record { clauses = map see clauses; last = None })
  ends fs i clauses inv none = inv.is ∙ ap (λ z. put (map see clauses) (clauses_by one is_else z)) none ∙ ap (λ z. Some (record { clauses = z; last = None })) (append-nil (map see clauses))
