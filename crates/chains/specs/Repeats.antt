-- The vertices that come again among visits.
use Rattle.std.specs.Prelude.{◌≡◌, Bool, true, List, ◌⊎◌}
use Rattle.theory.specs.Lists.{Has, Twice}
use Rattle.grid.specs.declared.pos.Pos.{Pos}
use Rattle.lines.specs.PositionFilter.{may_hold}
use Rattle.lines.specs.Holding.{Keeps}
use Rattle.chains.specs.declared.repeats.Repeats.{Repeats}
use Rattle.chains.specs.declared.visits.Visit.{Visit}

-- one more vertex is noted: it is met, and it came again where it was met; what was noted stays so
pub record IsRecorded (p : Pos) (old new : Repeats) : Type 0 where
  pub met : Keeps (may_hold old.met) (may_hold new.met)
  pub again : Keeps (may_hold old.again) (may_hold new.again)
  pub here : may_hold new.met p ≡ true
  pub twice : may_hold old.met p ≡ true → may_hold new.again p ≡ true

-- of all visits, those whose vertex is not met are still to come; of two that clash one is, or their vertex came again
pub record AreRecorded (r : Repeats) (all left : List Visit) : Type 0 where
  pub met : (v : Visit) → Has v all → Has v left ⊎ (may_hold r.met v.vertex ≡ true)
  pub again : (v w : Visit) → Has v all → Has w all → v.vertex ≡ w.vertex → ¬ (v ≡ w) → (Has v left ⊎ Has w left) ⊎ (may_hold r.again v.vertex ≡ true)

-- it holds of each vertex where visits clash
abbrev pub HoldsClashing : (Pos → Bool) → List Visit → Type 0
HoldsClashing may visits = (v w : Visit) → Has v visits → Has w visits → v.vertex ≡ w.vertex → ¬ (v ≡ w) → may v.vertex ≡ true

-- of all vertices, those that are not met are still to come; of one that is twice among all one is to come that comes again behind or is met, or it came again
pub record AreMet (r : Repeats) (all left : List Pos) : Type 0 where
  pub met : (v : Pos) → Has v all → Has v left ⊎ (may_hold r.met v ≡ true)
  pub again : (v : Pos) → Twice v all → (Has v left × (Twice v left ⊎ (may_hold r.met v ≡ true))) ⊎ (may_hold r.again v ≡ true)
