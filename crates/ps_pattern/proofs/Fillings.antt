-- What the definition of filling says of lists and vectors.
-- For: fill, is_uneven
use Rattle.std.proofs.Common.{◌≡◌, ℕ, ◌+◌, ◌<◌, List, map, refl, subst, ap, sym, ◌∙◌, Option, Some, None, arith, rules, true, false, Bool, IfOk}
use Rattle.std.specs.Prelude.{is_none}
use Rattle.std.specs.Prelude.{Result, Err}
use Rattle.std.specs.Option.{option_map}
use Rattle.std.proofs.lemmas.Simd.{map-map}
use Rattle.ps_base.specs.declared.faults.Place.{Place}
use Rattle.ps_pattern.specs.declared.syntax.Syntax.{Syntax}
use Rattle.ps_pattern.specs.declared.room.Built.{Built}
use Rattle.ps_pattern.specs.declared.room.FillFault.{FillFault}
use Rattle.ps_pattern.specs.declared.room.FillFault.TheVariants.{Uneven, TooLarge, NoMemory}
use Rattle.ps_pattern.specs.declared.template.Part.{Part}
use Rattle.ps_pattern.specs.declared.template.Part.TheOpen as t
use Rattle.ps_pattern.specs.declared.template.Template.{Template, fold-roll-Template}
use Rattle.ps_pattern.specs.declared.template.Template.TheVariants as k
use Rattle.ps_pattern.specs.Matching.{Binds, list_of}
use Rattle.ps_pattern.specs.Filling.{size, sizes, in_order, Fills, Filler, PartFiller, filled, filled_part, level_filled, part_filled, vector_of, joined_option}
use Rattle.ps_pattern.proofs.Weights.{size_list, size_vector}
use Rattle.ps_pattern.proofs.Orders.{some_is}

module _ (stamp : ℕ) (at : Place) (binds : Binds) where
  abbrev pub made_parts : List Part → Option (List Syntax)
  made_parts ps = in_order (map (λ p. filled_part stamp at p binds) ps)

  pub filled_list : (ps : List Part) → filled stamp at (k.List ps) binds ≡ option_map (list_of at) (made_parts ps)
  unfolding filled filled_part
  filled_list ps = ap (λ z. filled stamp at z binds) (sym (k.rolls-List ps)) ∙ ap (λ (h : Filler). h binds) (fold-roll-Template PartFiller Filler part_filled (level_filled stamp at) (t.List ps)) ∙ ap (λ z. option_map (list_of at) (in_order z)) (map-map (λ p. p binds) (filled_part stamp at) ps)

  pub filled_vector : (ps : List Part) → filled stamp at (k.Vector ps) binds ≡ option_map (vector_of at) (made_parts ps)
  unfolding filled filled_part
  filled_vector ps = ap (λ z. filled stamp at z binds) (sym (k.rolls-Vector ps)) ∙ ap (λ (h : Filler). h binds) (fold-roll-Template PartFiller Filler part_filled (level_filled stamp at) (t.Vector ps)) ∙ ap (λ z. option_map (vector_of at) (in_order z)) (map-map (λ p. p binds) (filled_part stamp at) ps)

  pub filled_dotted : (ps : List Part) (last : Template) → filled stamp at (k.Dotted ps last) binds ≡ joined_option at (made_parts ps) (filled stamp at last binds)
  unfolding filled filled_part
  filled_dotted ps last = ap (λ z. filled stamp at z binds) (sym (k.rolls-Dotted ps last)) ∙ ap (λ (h : Filler). h binds) (fold-roll-Template PartFiller Filler part_filled (level_filled stamp at) (t.Dotted ps last)) ∙ ap (λ z. joined_option at (in_order z) (filled stamp at last binds)) (map-map (λ p. p binds) (filled_part stamp at) ps)

pub wrap_none : (wrap : List Syntax → Syntax) (a : Option (List Syntax)) → is_none (option_map wrap a) ≡ is_none a
wrap_none wrap None = refl
wrap_none wrap (Some x) = refl

pub joined_none : (at : Place) (a : Option (List Syntax)) (b : Option Syntax) → is_none a ≡ true → is_none (joined_option at a b) ≡ true
joined_none at None b e = refl
joined_none at (Some x) b e = search rules

pub joined_last : (at : Place) (a : Option (List Syntax)) (b : Option Syntax) → is_none a ≡ false → is_none (joined_option at a b) ≡ is_none b
joined_last at None b e = search rules
joined_last at (Some x) None e = refl
joined_last at (Some x) (Some y) e = refl

pub same_answer : {E : Type 0} (r : Result Bool E) (a b : Bool) → a ≡ b → IfOk r (λ x. x ≡ a) → IfOk r (λ x. x ≡ b)
same_answer r a b e h = subst (λ z. IfOk r (λ x. x ≡ z)) e h

module _ (wrap : List Syntax → Syntax) (more : (fs : List Syntax) → size (wrap fs) ≡ 1 + sizes fs) where
  wrap_large : (a : Option (List Syntax)) (left : ℕ) → ((x : List Syntax) → a ≡ Some x → left < sizes x) → (y : Syntax) → option_map wrap a ≡ Some y → left < size y
  wrap_large None left h y e = search rules
  wrap_large (Some fs) left h y e = let b : left < sizes fs = h fs refl in let d : size y ≡ 1 + sizes fs = ap size (sym (some_is e)) ∙ more fs in omega arith

  wrap_fault : (a : Option (List Syntax)) (left : ℕ) (x : FillFault) → Fills sizes a left (Err x) → Fills size (option_map wrap a) left (Err x)
  wrap_fault a left Uneven h = ap (option_map wrap) h
  wrap_fault a left TooLarge h = wrap_large a left h
  wrap_fault a left NoMemory h = h

  pub wrapped_fault : (a : Option (List Syntax)) (b : Option Syntax) (left : ℕ) (x : FillFault) → b ≡ option_map wrap a → Fills sizes a left (Err x) → Fills size b left (Err x)
  wrapped_fault a b left x e h = subst (λ z. Fills size z left (Err x)) (sym e) (wrap_fault a left x h)

  pub wrapped_made : (a : Option (List Syntax)) (b : Option Syntax) (m : List Syntax) (mleft left : ℕ) (r : Result (Built Syntax) FillFault) → b ≡ option_map wrap a → ((a ≡ Some m) × (mleft + sizes m ≡ left)) → Fills size (Some (wrap m)) (mleft + sizes m) r → Fills size b left r
  wrapped_made a b m mleft left r e made h = subst (λ z. Fills size z left r) (sym (e ∙ ap (option_map wrap) made.0)) (subst (λ n. Fills size (Some (wrap m)) n r) made.1 h)

pub list_size : (at : Place) (fs : List Syntax) → size (list_of at fs) ≡ 1 + sizes fs
list_size at fs = size_list (list_of at fs) fs refl

pub vector_size : (at : Place) (fs : List Syntax) → size (vector_of at fs) ≡ 1 + sizes fs
vector_size at fs = size_vector (vector_of at fs) fs refl
