-- Groups of nodes that mention each other, and the order in which groups are listed (this project's own; the groups are the
-- strongly connected components of a directed graph).
--
-- Read `IsOrder g gs` as: gs are the groups of the graph g, one after another. A group is ready where it is not listed yet and all
-- other groups that it mentions are; the next group is always the one that is ready and has the lowest number.
use Rattle.std.specs.Prelude.{◌≡◌, ◌↔◌, ◌⊎◌, ℕ, ◌≤◌, nat_lt, Bool, true, false, List, [], ◌∷◌, ◌++◌, length, slice_index_or}
use Rattle.ps_kernel.specs.Lists.{stands_in}
use Rattle.ps_kernel.specs.Captured.{Ascends}

-- the nodes by their numbers, and those that each one mentions
pub record Graph : Type 0 where
  pub is_node : ℕ → Bool
  pub mentioned : ℕ → List ℕ

-- the numbers of a table are nodes, and mention those of their row
abbrev pub graph_of_table : List (List ℕ) → Graph
graph_of_table rows = record { is_node = λ d. nat_lt d (length rows); mentioned = λ d. slice_index_or rows d [] }

pub record Mentions (g : Graph) (d e : ℕ) : Type 0 where
  pub names : stands_in e (g.mentioned d) ≡ true

pub data Reaches (g : Graph) (d : ℕ) : ℕ → Type 0 where
  itself : Reaches g d d
  through : (e f : ℕ) → Reaches g d e → Mentions g e f → Reaches g d f

-- each reaches the other
pub record Together (g : Graph) (d e : ℕ) : Type 0 where
  pub there : Reaches g d e
  pub back : Reaches g e d

-- the group of d is not listed, and all other groups that it mentions are
pub record IsReady (g : Graph) (listed : List ℕ) (d : ℕ) : Type 0 where
  pub node : g.is_node d ≡ true
  pub unlisted : stands_in d listed ≡ false
  pub others : (e f : ℕ) → Together g d e → Mentions g e f → Together g d f ⊎ (stands_in f listed ≡ true)

-- of the groups that are ready the one with the lowest number
pub record IsNext (g : Graph) (listed group : List ℕ) : Type 0 where
  pub lowest : ℕ
  pub ready : IsReady g listed lowest
  pub least : (d : ℕ) → IsReady g listed d → lowest ≤ d
  pub members : (e : ℕ) → (stands_in e group ≡ true) ↔ Together g lowest e
  pub ascending : Ascends group

-- the rest of the order, behind what is listed
abbrev pub ordered : Graph → List ℕ → List (List ℕ) → Type 0
ordered g listed [] = (d : ℕ) → g.is_node d ≡ true → stands_in d listed ≡ true
ordered g listed (group ∷ groups) = IsNext g listed group × ordered g (group ++ listed) groups

pub record IsOrder (g : Graph) (groups : List (List ℕ)) : Type 0 where
  pub order : ordered g [] groups

-- ---- numbered groups

-- each node mentions nodes alone
pub record IsClosed (g : Graph) : Type 0 where
  pub closed : (d e : ℕ) → g.is_node d ≡ true → Mentions g d e → g.is_node e ≡ true

-- The groups are numbered: a node mentions those of its own or a lower number alone, and nodes of one number reach each other.
pub record AreParts (g : Graph) (part : ℕ → ℕ) : Type 0 where
  pub lower : (d e : ℕ) → g.is_node d ≡ true → Mentions g d e → part e ≤ part d
  pub connected : (d e : ℕ) → g.is_node d ≡ true → g.is_node e ≡ true → part d ≡ part e → Together g d e
