-- A table of names that only grows.
-- For: read_all (kept)
use Rattle.std.proofs.Common.{◌≡◌, ℕ, zero, suc, ◌-◌, List, [], ◌∷◌, ◌++◌, Option, Some, None, refl, sym, ap, subst, ◌∙◌, append_assoc}
use Rattle.std.specs.Prelude.{codes}
use Rattle.std.proofs.lemmas.List.{append-nil}
use Rattle.ps_base.specs.Names.{number_of}
use Rattle.ps_read.specs.declared.token.Front.{Front}
use Rattle.ps_read.specs.declared.token.Front.TheVariants.{Gap, Whole, Named, Quoted, Stop}
use Rattle.ps_read.specs.Lexical.{Table, added, added_by, front_of, listed, listed_by, noted, taken}
use Rattle.ps_read.specs.Reading.{Grown}

pub grown_same : (t : Table) → Grown t t
grown_same t = record { more = []; is = sym (append-nil t) }

pub grown_then : (t u v : Table) → Grown t u → Grown u v → Grown t v
grown_then t u v g h = record { more = g.more ++ h.more; is = h.is ∙ ap (λ (x : Table). x ++ h.more) g.is ∙ append_assoc t g.more h.more }

grown_added : (t : Table) (x : List ℕ) → Grown t (added t x)
grown_added t x = go (number_of t x)
  where
    go : (o : Option ℕ) → Grown t (added_by t x o)
    go None = record { more = x ∷ []; is = refl }
    go (Some n) = grown_same t

pub grown_noted : (t : Table) (f : Front) → Grown t (noted t f)
unfolding noted
grown_noted t (Gap n) = grown_same t
grown_noted t (Whole n x) = grown_same t
grown_noted t (Named n x) = grown_added t x
grown_noted t Quoted = grown_added t (codes "quote")
grown_noted t (Stop n kind) = grown_same t

-- a text only adds to the table
grown_by : (t : Table) (o : Option ℕ) (more : ℕ → Table) → ((n : ℕ) → Grown t (more n)) → Grown t (listed_by t o more)
grown_by t None more h = grown_same t
grown_by t (Some n) more h = h n

pub grown_listed : (t : Table) (n : ℕ) (text : List ℕ) → Grown t (listed t n text)
unfolding listed
grown_listed t n [] = grown_same t
grown_listed t (suc n) (c ∷ cs) = grown_listed t n cs
grown_listed t zero (c ∷ cs) =
    grown_then t (noted t (front_of c cs)) _ (grown_noted t (front_of c cs))
    (grown_by (noted t (front_of c cs)) (taken (front_of c cs)) (λ n. listed (noted t (front_of c cs)) (n - 1) cs) (λ n. grown_listed (noted t (front_of c cs)) (n - 1) cs))

-- what is the same has grown by nothing
pub grown_is : (t u : Table) → u ≡ t → Grown t u
grown_is t u e = subst (Grown t) (sym e) (grown_same t)

-- what the table with a front's name is has grown
pub grown_front : (t u : Table) (f : Front) → u ≡ noted t f → Grown t u
grown_front t u f e = subst (Grown t) (sym e) (grown_noted t f)
