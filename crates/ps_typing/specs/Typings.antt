-- Typings of what survives (this project's own, after Hindley and Milner).
--
-- Groups of definitions are typed in the order of `Order`. The type of a definition may have any types for its variables, once its
-- group is typed: so a mention from a later group may have any instance of it, and a mention from its own group has the type
-- itself. Data has no variables, so nothing of it is changed by that. Read `IsTyping k s groups T` as: T types these groups, one
-- after another. Read `IsPrincipal` as: whatever types them is an instance, group by group. Read `IsTyped` and `FailsAt` last: they
-- say what inference answers.
use Rattle.std.specs.Prelude.{◌≡◌, ℕ, Bool, true, false, ◌==◌, if◌then◌else◌, List, [], ◌∷◌, ◌++◌, map, Option, Some, None}
use Rattle.ps_types.specs.declared.types.Ty.{Ty}
use Rattle.ps_types.specs.declared.types.Ty.TheVariants as ty
use Rattle.ps_types.specs.Substitutions.{Substitution, apply, some_mentions, IsInstance}
use Rattle.ps_kernel.specs.declared.kernel.Kernel.{Kernel}
use Rattle.ps_kernel.specs.declared.kernel.Lambda.{Lambda}
use Rattle.ps_kernel.specs.declared.survivors.Kept.{Kept}
use Rattle.ps_kernel.specs.declared.survivors.Survivors.{Survivors}
use Rattle.std.specs.Prelude.{slice_get}
use Rattle.ps_kernel.specs.Lists.{stands_in, Each, Among}
use Rattle.ps_typing.specs.Data.{IsSmall, IsData}
use Rattle.ps_typing.specs.Order.{IsOrder}
use Rattle.ps_typing.specs.Rules.{Typing, Text, IsLambda, Types}
use Rattle.ps_typing.specs.Texts.{lambda_at, value_at, lambdas_in, text_of, graph_of}

-- ---- one group

-- What a mention may have for a type: of a definition of an earlier group any instance, and of one of its own group its type.
abbrev pub mention_of : Bool → Bool → Ty → Ty → Type 0
mention_of true own t u = IsInstance t u
mention_of false true t u = u ≡ t
mention_of false false t u = ⊥

pub record MentionsFrom (earlier : ℕ → Bool) (text : Text) (T : Typing) (d : ℕ) (u : Ty) : Type 0 where
  pub is : mention_of (earlier d) (text.definitions d) (T.definition d) u

-- the body of a lambda has the type of its result, and no expression in it has too large a type
pub record IsBody (k : Kernel) (s : Survivors) (text : Text) (earlier : ℕ → Bool) (T : Typing) (l : ℕ) : Type 0 where
  pub lambda : Lambda
  pub there : slice_get k.lambdas l ≡ Some lambda
  pub body : Types k s.blocks text T (MentionsFrom earlier text T) lambda.body (T.result l) (T.nodes l)
  pub small : Each IsSmall (T.nodes l)

-- A procedure definition has the type of its lambda, and each lambda in its text is typed.
pub record IsProcedure (k : Kernel) (s : Survivors) (text : Text) (earlier : ℕ → Bool) (T : Typing) (d l : ℕ) : Type 0 where
  pub type : IsLambda k text T l (T.definition d)
  pub bodies : Each (IsBody k s text earlier T) (lambdas_in k l)

-- Any other definition has the type of its value.
abbrev pub defined : Kernel → Survivors → Text → (ℕ → Bool) → Typing → ℕ → Option ℕ → Option Kept → Type 0
defined k s text earlier T d (Some l) v = IsProcedure k s text earlier T d l
defined k s text earlier T d None (Some v) = IsData k.kinds s.blocks v (T.definition d)
defined k s text earlier T d None None = ⊥

pub record IsDefined (k : Kernel) (s : Survivors) (text : Text) (earlier : ℕ → Bool) (T : Typing) (d : ℕ) : Type 0 where
  pub is : defined k s text earlier T d (lambda_at d s.procedures) (value_at d s.globals)
  pub small : IsSmall (T.definition d)
  -- `main` takes nothing to an integer
  pub main : (d == s.main) ≡ true → T.definition d ≡ ty.Proc [] ty.Integer

-- a group, where these definitions are of earlier groups
pub record IsGroup (k : Kernel) (s : Survivors) (earlier : ℕ → Bool) (ds : List ℕ) (T : Typing) : Type 0 where
  pub each : Each (IsDefined k s (text_of k s ds) earlier T) ds

-- ---- groups, one after another

abbrev pub earlier_than : List ℕ → ℕ → Bool
earlier_than listed d = stands_in d listed

-- behind what is listed
abbrev pub groups_typed : Kernel → Survivors → List ℕ → List (List ℕ) → Typing → Type 0
groups_typed k s listed [] T = Unit {0}
groups_typed k s listed (ds ∷ gs) T = IsGroup k s (earlier_than listed) ds T × groups_typed k s (ds ++ listed) gs T

pub record IsTyping (k : Kernel) (s : Survivors) (groups : List (List ℕ)) (T : Typing) : Type 0 where
  pub each : groups_typed k s [] groups T

-- in a text T is P at σ
pub record IsAt (text : Text) (σ : Substitution) (P T : Typing) : Type 0 where
  pub locals : (x : ℕ) → text.locals x ≡ true → T.local x ≡ apply σ (P.local x)
  pub results : (l : ℕ) → text.lambdas l ≡ true → T.result l ≡ apply σ (P.result l)
  pub nodes : (l : ℕ) → text.lambdas l ≡ true → T.nodes l ≡ map (apply σ) (P.nodes l)
  pub definitions : (d : ℕ) → text.definitions d ≡ true → T.definition d ≡ apply σ (P.definition d)

-- in a text T is an instance of P
pub record IsInstanceOf (text : Text) (P T : Typing) : Type 0 where
  pub by : Substitution
  pub at : IsAt text by P T

-- it types the groups, and whatever types them is an instance of it, group by group
pub record IsPrincipal (k : Kernel) (s : Survivors) (groups : List (List ℕ)) (P : Typing) : Type 0 where
  pub typing : IsTyping k s groups P
  pub principal : (T : Typing) → IsTyping k s groups T → (ds : List ℕ) → Among ds groups → IsInstanceOf (text_of k s ds) P T

-- ---- what nothing fixes

-- A variable that stands in the type of no definition of the group becomes integer.
abbrev pub settling : Typing → List ℕ → Substitution
settling P ds x = if some_mentions x (map P.definition ds) then ty.Var x else ty.Integer

pub record IsSettled (k : Kernel) (s : Survivors) (groups : List (List ℕ)) (P T : Typing) : Type 0 where
  pub each : (ds : List ℕ) → Among ds groups → IsAt (text_of k s ds) (settling P ds) P T

-- ---- what inference answers

-- T is a principal typing of all that survives, with integer for what nothing fixes
pub record IsTyped (k : Kernel) (s : Survivors) (T : Typing) : Type 0 where
  pub groups : List (List ℕ)
  pub order : IsOrder (graph_of k s) groups
  pub typing : Typing
  pub principal : IsPrincipal k s groups typing
  pub settled : IsSettled k s groups typing T

-- The groups before a group have a typing, and with that group they have none. Its lowest definition is d.
pub record FailsAt (k : Kernel) (s : Survivors) (d : ℕ) : Type 0 where
  pub before : List (List ℕ)
  pub others : List ℕ
  pub after : List (List ℕ)
  pub order : IsOrder (graph_of k s) (before ++ (d ∷ others) ∷ after)
  pub typing : Typing
  pub typed : IsTyping k s before typing
  pub none : (T : Typing) → IsTyping k s (before ++ (d ∷ others) ∷ []) T → ⊥
