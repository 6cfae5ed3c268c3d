-- Scopes that tell the same of each name give the same faults.
-- For: `definition_fault`
use Rattle.std.proofs.Common.{◌≡◌, ℕ, List, [], ◌∷◌, map, length, Bool, true, false, Some, None, refl, sym, ap, ◌∙◌, subst}
use Rattle.std.specs.Prelude.{Option, slice_get, if◌then◌else◌, is_some}
use Rattle.std.specs.Option.{option_map}
use Rattle.std.specs.List.{AllByRecursion}
use Rattle.ps_base.specs.Names.{number_of}
use Rattle.ps_base.specs.declared.faults.Place.{Place}
use Rattle.ps_datum.specs.declared.datum.Datum.{Datum}
use Rattle.ps_datum.specs.declared.datum.DatumKind.{DatumKind, fold-DatumKind}
use Rattle.ps_datum.specs.declared.datum.DatumKind.TheOpen.{DatumKind-F, Datum-F}
use Rattle.ps_datum.specs.declared.datum.DatumKind.TheVariants as k
use Rattle.ps_datum.proofs.Trees.{induction, fold-datum, fold-boolean, fold-integer, fold-char, fold-text, fold-symbol, fold-list, fold-dotted, fold-vector}
use Rattle.ps_plain.specs.declared.program.Keyword.{Keyword}
use Rattle.ps_plain.specs.declared.program.Keyword.TheVariants as keywords
use Rattle.ps_plain.specs.Forms.{Scope, has_arity, keyword_of, is_name}
use Rattle.ps_plain.specs.Faults.{Flaws, flaws, flaws_node, shapeless, name_flaws, word_flaws, list_flaws, or_else, exprs_names, called_names, call_names, conditional_names, form_names, headed_names, list_names, behind_names, body_names}
use Rattle.ps_resolve.specs.InsideHeads.{arity_at}

-- the same parameters, and the same numbers of operands for each name of a procedure
pub record Tells (s t : Scope) : Type 0 where
  pub parameters : s.parameters ≡ t.parameters
  pub arities : (w : List ℕ) → arity_at s.procedures s.arities w ≡ arity_at t.procedures t.arities w

-- a call, by the number of operands that the name has
abbrev by_arity : Place → Place → Option (Option ℕ) → List Flaws → Option Place → Option Place
by_arity p at None fs rest = Some at
by_arity p at (Some m) fs rest = if has_arity (length fs) m then rest else Some p

called_is : (s : Scope) (p at : Place) (f : Option ℕ) (fs : List Flaws) → called_names s p at f fs ≡ by_arity p at (option_map (slice_get s.arities) f) fs (exprs_names s fs)
called_is s p at None fs = refl
called_is s p at (Some f) fs = refl

module _ (s t : Scope) (tells : Tells s t) where
  -- both scopes give the same faults of the names of a datum
  pub record Same (f : Flaws) : Type 0 where
    pub expr : f.expr_names s ≡ f.expr_names t
    pub test : f.test_names s ≡ f.test_names t
    pub write : f.write_names s ≡ f.write_names t

  abbrev AllSame : List Flaws → Type 0
  AllSame [] = Unit {0}
  AllSame (f ∷ fs) = Same f × AllSame fs

  exprs : (fs : List Flaws) → AllSame fs → exprs_names s fs ≡ exprs_names t fs
  exprs [] all = refl
  exprs (f ∷ fs) all = (λ i. or_else (all.0.expr i) (exprs fs all.1 i))

  conditional : (fs : List Flaws) → AllSame fs → conditional_names s fs ≡ conditional_names t fs
  conditional [] all = refl
  conditional (a ∷ []) all = refl
  conditional (a ∷ b ∷ []) all = refl
  conditional (a ∷ b ∷ c ∷ []) all = (λ i. or_else (all.0.test i) (or_else (all.1.0.expr i) (all.1.1.0.expr i)))
  conditional (a ∷ b ∷ c ∷ d ∷ fs) all = refl

  call : (p at : Place) (w : List ℕ) (fs : List Flaws) → AllSame fs → call_names s p at w fs ≡ call_names t p at w fs
  call p at w fs all =
      (λ i. if is_some (number_of (tells.parameters i) w) then Some at else called_is s p at (number_of s.procedures w) fs i)
      ∙ (λ i. if is_some (number_of t.parameters w) then Some at else by_arity p at (tells.arities w i) fs (exprs fs all i))
      ∙ sym (ap (λ z. if is_some (number_of t.parameters w) then Some at else z) (called_is t p at (number_of t.procedures w) fs))

  form : (p at : Place) (w : List ℕ) (m : Option Keyword) (fs : List Flaws) → AllSame fs → form_names s p at w m fs ≡ form_names t p at w m fs
  form p at w None fs all = call p at w fs all
  form p at w (Some (keywords.Arithmetic o)) fs all = exprs fs all
  form p at w (Some keywords.If) fs all = conditional fs all
  form p at w (Some keywords.ReadByte) fs all = refl
  form p at w (Some keywords.Define) fs all = refl
  form p at w (Some keywords.WriteByte) fs all = refl
  form p at w (Some (keywords.Compare o)) fs all = refl

  headed : (p at : Place) (w : Option (List ℕ)) (fs : List Flaws) → AllSame fs → headed_names s p at w fs ≡ headed_names t p at w fs
  headed p at None fs all = refl
  headed p at (Some w) fs all = form p at w (keyword_of w) fs all

  listed : (p : Place) (fs : List Flaws) → AllSame fs → list_names s p fs ≡ list_names t p fs
  listed p [] all = refl
  listed p (f ∷ fs) all = headed p f.place f.word fs all.1

  behind : (fs : List Flaws) → AllSame fs → behind_names s fs ≡ behind_names t fs
  behind [] all = refl
  behind (f ∷ fs) all = exprs fs all.1

  of_name : (p : Place) (w : List ℕ) (b : Bool) → Same (name_flaws p w b)
  of_name p w true = record { expr = ap (λ z. if is_some (number_of z w) then None else Some p) tells.parameters; test = refl; write = refl }
  of_name p w false = record { expr = refl; test = refl; write = refl }

  of_word : (p : Place) (m : Option (List ℕ)) → Same (word_flaws p m)
  of_word p None = record { expr = refl; test = refl; write = refl }
  of_word p (Some w) = of_name p w (is_name w)

  none : (p : Place) → Same (shapeless p)
  none p = record { expr = refl; test = refl; write = refl }

  module _ (names : List (List ℕ)) where
    abbrev fs : DatumKind-F (Place → Flaws) Flaws → Place → Flaws
    fs = flaws_node names

    abbrev ft : Datum-F (Place → Flaws) Flaws → Flaws
    ft d = d.kind d.place

    abbrev IsSame : Datum → Type 0
    IsSame d = Same (flaws names d)

    abbrev IsSameAt : DatumKind → Type 0
    IsSameAt x = (p : Place) → Same (fold-DatumKind (Place → Flaws) Flaws fs ft x p)

    all_same : (ds : List Datum) → AllByRecursion IsSame ds → AllSame (map (flaws names) ds)
    all_same [] all = tt
    all_same (d ∷ ds) all = (all.0, all_same ds all.1)

    of_list : (ds : List Datum) → AllByRecursion IsSame ds → (p : Place) → Same (list_flaws p (map (flaws names) ds))
    of_list ds all p =
        let each = all_same ds all in
        record { expr = listed p (map (flaws names) ds) each; test = behind (map (flaws names) ds) each; write = behind (map (flaws names) ds) each }

    by : (x : DatumKind) (f : Place → Flaws) → fold-DatumKind (Place → Flaws) Flaws fs ft x ≡ f → ((p : Place) → Same (f p)) → IsSameAt x
    by x f is h p = subst (λ z. Same (z p)) (sym is) (h p)

    same : (d : Datum) → IsSame d
    same = induction IsSameAt IsSame
        (λ b. by (k.Boolean b) shapeless (fold-boolean fs ft b) none)
        (λ n. by (k.Integer n) (fs (DatumKind-F.Integer n)) (fold-integer fs ft n) (λ p. record { expr = refl; test = refl; write = refl }))
        (λ c. by (k.Char c) shapeless (fold-char fs ft c) none)
        (λ w. by (k.Text w) shapeless (fold-text fs ft w) none)
        (λ n. by (k.Symbol n) (λ p. word_flaws p (slice_get names n.0)) (fold-symbol fs ft n) (λ p. of_word p (slice_get names n.0)))
        (λ ds all. by (k.List ds) (λ p. list_flaws p (map (flaws names) ds)) (fold-list fs ft ds) (of_list ds all))
        (λ ds d all last. by (k.Dotted ds d) shapeless (fold-dotted fs ft ds d) none)
        (λ ds all. by (k.Vector ds) shapeless (fold-vector fs ft ds) none)
        (λ p x h. subst Same (sym (fold-datum fs ft p x)) (h p))

    -- and of a body
    pub same_body : (ds : List Datum) → body_names s (map (flaws names) ds) ≡ body_names t (map (flaws names) ds)
    same_body [] = refl
    same_body (d ∷ []) = (same d).expr
    same_body (d ∷ e ∷ ds) = (λ i. or_else ((same d).write i) (same_body (e ∷ ds) i))
