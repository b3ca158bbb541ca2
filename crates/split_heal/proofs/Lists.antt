-- What follows for the lists of lines and rings.
use Rattle.std.proofs.Common.{◌≡◌, List, Ok, Err, IfOk, Result, refl, sym, subst}
use Rattle.theory.specs.ArcNumbers.{ArcRef, StitchTo}
use Rattle.theory.specs.Geometry.{Geometry, IsSound, IsLineOf, IsRingOf, JunctionOf}
use Rattle.theory.specs.Laws.{IsOrder}
use Rattle.theory.specs.Refinement.{IsPartOf, IsRefinementOf, replaced, turned_used}
use Rattle.theory.specs.Topology.{IsRingList}
use Rattle.theory.proofs.ProvedLaws.{pieces_in_place, ring_replaced_and_turned}
use Rattle.grid.specs.declared.pos.Pos.{Pos}
use Rattle.lines.specs.Turned.{position_cmp}
use Rattle.lines.specs.Positions.{position_total, position_same}
use Rattle.split_heal.specs.PartsOfAll.{RecutAllParts, of_table}
use Rattle.split_heal.specs.SplitParts.{both_parts, number_of, of_side}
use Rattle.split_heal.specs.declared.split_lists.Side.{Side}
use Rattle.split_heal.specs.declared.split_lists.Side.TheVariants.{Left, Right}

order : IsOrder position_cmp
order = record { total = position_total; same = position_same }

module _ (table : List (List Pos)) (pieces : List (List ArcRef)) (used list : List ArcRef) where
  pub line_replaced : list ≡ replaced pieces used → (g u : Geometry Pos) (old : List (List Pos)) (l : List Pos) → IsSound g → IsSound u → IsPartOf g u →
      IsRefinementOf position_cmp g u old table pieces → IsLineOf g l → StitchTo old used l → StitchTo table list l
  line_replaced e g u old l sg su part ref h k =
      subst (λ w. StitchTo table w l) (sym e) ((pieces_in_place position_cmp g u order sg su part old table pieces ref).line l used h k)

  pub ring_replaced : list ≡ turned_used position_cmp table (replaced pieces used) → (g u : Geometry Pos) (old : List (List Pos)) (r : List Pos) → IsSound g → IsSound u → IsPartOf g u →
      IsRefinementOf position_cmp g u old table pieces → IsRingOf g r → IsRingList position_cmp (JunctionOf g) old r used → IsRingList position_cmp (JunctionOf u) table r list
  ring_replaced e g u old r sg su part ref h k =
      subst (λ w. IsRingList position_cmp (JunctionOf u) table r w) (sym e) (ring_replaced_and_turned position_cmp g u order sg su part old table pieces ref r used h k)

-- the pieces of a side are those of the table of its number
pub side_is : (s : Side) (r : RecutAllParts) → of_table (number_of s) r ≡ of_side s (both_parts r)
side_is Left r = refl
side_is Right r = refl

pub if_ok : {A E : Type 0} (r : Result A E) (P Q : A → Type 0) → IfOk r P → ((x : A) → P x → Q x) → IfOk r Q
if_ok (Ok x) P Q p f = f x p
if_ok (Err e) P Q p f = tt
