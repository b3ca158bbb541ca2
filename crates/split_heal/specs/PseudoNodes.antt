-- The ends of arcs that meet at a vertex, and which arc goes on from another.
use Rattle.std.specs.Prelude.{◌≡◌, ℕ, Bool, true, false, cond, List, [], ◌∷◌, ◌++◌, ◌⊎◌, Option, Some, None}
use Rattle.std.specs.Ordering.{is_gt}
use Rattle.theory.specs.ArcNumbers.{ArcRef}
use Rattle.theory.specs.Lists.{Has}
use Rattle.grid.specs.declared.pos.Pos.{Pos}
use Rattle.lines.specs.Turned.{position_cmp}
use Rattle.arcs.specs.Among.{among}
use Rattle.arcs.specs.Ends.{ends_along, first_end}
use Rattle.split_heal.specs.ArcUseMap.{recorded_of, with_recorded}
use Rattle.split_heal.specs.declared.pseudo_nodes.ArcEnd.{ArcEnd}
use Rattle.split_heal.specs.declared.pseudo_nodes.PseudoNodes.{PseudoNodes}

-- the vertex at which a used arc begins
abbrev pub begin_at : List (List Pos) → ArcRef → Option Pos
begin_at arcs a = first_end (ends_along arcs a)

-- arc k used in this direction
abbrev pub use_of : Bool → ℕ → ArcRef
use_of r k = record { arc = k; reversed = r }

-- the used arc of an end
abbrev pub used_at : ArcEnd → ArcRef
used_at e = record { arc = e.arc; reversed = e.reversed }

-- the end of a used arc that begins at v
abbrev pub end_at : Pos → ArcRef → ArcEnd
end_at v a = record { vertex = v; arc = a.arc; reversed = a.reversed }

-- the end of a used arc at its first vertex, where there is one
abbrev pub end_if : Option Pos → ArcRef → List ArcEnd
end_if None a = []
end_if (Some v) a = end_at v a ∷ []

-- the ends of the arcs of these numbers, each used in this direction
abbrev pub ends_from : List (List Pos) → Bool → List ℕ → List ArcEnd
ends_from arcs r [] = []
ends_from arcs r (k ∷ ks) = end_if (begin_at arcs (use_of r k)) (use_of r k) ++ ends_from arcs r ks

-- the first ends of the arcs of these numbers, and then their last ones
abbrev pub all_ends : List (List Pos) → List ℕ → List ArcEnd
all_ends arcs ks = ends_from arcs false ks ++ ends_from arcs true ks

-- the vertex of an end
abbrev pub vertex_of : ArcEnd → Pos
vertex_of e = e.vertex

-- no end comes before one of a lesser vertex, and no used arc has two
abbrev pub AreGrouped : List ArcEnd → Type 0
AreGrouped [] = Unit {0}
AreGrouped (e ∷ l) = ((d : ArcEnd) → Has d l → (is_gt (position_cmp e.vertex d.vertex) ≡ false) × (¬ (used_at e ≡ used_at d))) × AreGrouped l

-- the same, and each of two used arcs noted of the other
abbrev pub paired : ArcRef → ArcRef → (ArcRef → Option ArcRef) → ArcRef → Option ArcRef
paired a b f = with_recorded b a (with_recorded a b f)

-- the same, and what is noted where an end and these others are all that meet
abbrev pub with_pair : List Pos → ArcEnd → List ArcEnd → (ArcRef → Option ArcRef) → ArcRef → Option ArcRef
with_pair stops e [] f = f
with_pair stops e (d ∷ []) f = cond (among stops e.vertex) f (paired (used_at e) (used_at d) f)
with_pair stops e (d ∷ (c ∷ l)) f = f

-- a used arc of one of the numbers begins at v
abbrev pub Begins : List (List Pos) → Pos → List ℕ → ArcRef → Type 0
Begins arcs v ks p = Has p.arc ks × (begin_at arcs p ≡ Some v)

-- three different ones are among those that meet
pub record ThreeOf (H : ArcRef → Type 0) : Type 0 where
  pub one : ArcRef
  pub two : ArcRef
  pub three : ArcRef
  pub has_one : H one
  pub has_two : H two
  pub has_three : H three
  pub one_two : ¬ (one ≡ two)
  pub one_three : ¬ (one ≡ three)
  pub two_three : ¬ (two ≡ three)

-- none goes on from a, which is among those that meet: a line ends there, or no other meets it, or three do
pub record IsStopped (stop : Type 0) (H : ArcRef → Type 0) (partner : ArcRef → Option ArcRef) (a : ArcRef) : Type 0 where
  pub none : partner a ≡ None
  pub why : stop ⊎ (((p : ArcRef) → H p → p ≡ a) ⊎ ThreeOf H)

-- a and b go on from one another: no line ends there, and these two are all that meet
pub record ArePartners (stop : Type 0) (H : ArcRef → Type 0) (partner : ArcRef → Option ArcRef) (a b : ArcRef) : Type 0 where
  pub there : partner a ≡ Some b
  pub back : partner b ≡ Some a
  pub apart : ¬ (a ≡ b)
  pub no_end : ¬ stop
  pub meets : H b
  pub only : (p : ArcRef) → H p → (p ≡ a) ⊎ (p ≡ b)

-- the answer is right of a, which is among those that meet at a vertex: which of them goes on from it
abbrev pub IsVerdict : Type 0 → (ArcRef → Type 0) → (ArcRef → Option ArcRef) → ArcRef → Type 0
IsVerdict stop H partner a = IsStopped stop H partner a ⊎ ((b : ArcRef) × ArePartners stop H partner a b)

-- the one other used arc that begins where a used arc begins, if it goes on there
abbrev pub partner_in : PseudoNodes → ArcRef → Option ArcRef
partner_in m a = recorded_of m.partners a
