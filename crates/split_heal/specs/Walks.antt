-- Walks along used arcs that go on from one another, over arcs of which some are left.
use Rattle.std.specs.Prelude.{◌≡◌, ℕ, zero, suc, Bool, true, false, cond, List, [], ◌∷◌, ◌++◌, get_or, slice_set, Option, Some, None, ◌⊎◌}
use Rattle.theory.specs.ArcNumbers.{ArcRef, Uses, UsesOnce, flipped}
use Rattle.theory.specs.Lists.{Has, last_of}

-- whether an arc is left
abbrev pub is_left : List Bool → ℕ → Bool
is_left left k = get_or left k false

-- the same marks, and this arc taken
abbrev pub without : List Bool → ℕ → List Bool
without left k = slice_set left k false

-- how many arcs are left
abbrev pub count_left : List Bool → ℕ
count_left [] = zero
count_left (b ∷ left) = cond b (suc (count_left left)) (count_left left)

-- from a used arc the walk goes on by the others, each of which was left, until none is left to go on to
abbrev pub Goes : (ArcRef → Option ArcRef) → List Bool → ArcRef → List ArcRef → List Bool → Type 0
Goes partner left a [] after = (after ≡ left) × ((b : ArcRef) → partner (flipped a) ≡ Some b → is_left left b.arc ≡ false)
Goes partner left a (b ∷ more) after = (partner (flipped a) ≡ Some b) × (is_left left b.arc ≡ true) × Goes partner (without left b.arc) b more after

-- the same, where the next used arc is taken already, or there is none
abbrev pub GoesOn : (ArcRef → Option ArcRef) → List Bool → Option ArcRef → List ArcRef → List Bool → Type 0
GoesOn partner left None run after = (run ≡ []) × (after ≡ left)
GoesOn partner left (Some b) run after = (more : List ArcRef) × (run ≡ b ∷ more) × Goes partner left b more after

-- one where there is a used arc
abbrev pub some_one : Option ArcRef → ℕ
some_one None = 0
some_one (Some a) = 1

-- the list is the used arc, and those that go on from it
abbrev pub Walk : (ArcRef → Option ArcRef) → List Bool → ArcRef → List ArcRef → List Bool → Type 0
Walk partner left a run after = (more : List ArcRef) × (run ≡ a ∷ more) × Goes partner left a more after

-- one run more from a used arc, where it was left
abbrev pub Adds : (ArcRef → Option ArcRef) → List Bool → List (List ArcRef) → ArcRef → List Bool → List (List ArcRef) → Type 0
Adds partner left runs a after more =
    ((is_left left a.arc ≡ false) × (after ≡ without left a.arc) × (more ≡ runs))
    ⊎ ((is_left left a.arc ≡ true) × (run : List ArcRef) × Walk partner (without left a.arc) a run after × (more ≡ runs ++ (run ∷ [])))

-- the same, where it is left and no arc goes on to it; else nothing changes
abbrev pub AddsStarted : (ArcRef → Option ArcRef) → List Bool → List (List ArcRef) → ArcRef → List Bool → List (List ArcRef) → Type 0
AddsStarted partner left runs a after more =
    (((is_left left a.arc ≡ false) ⊎ ((b : ArcRef) × (partner a ≡ Some b))) × (after ≡ left) × (more ≡ runs))
    ⊎ ((partner a ≡ None) × Adds partner left runs a after more)

-- the same, where none goes on from its other end either; else nothing changes
abbrev pub AddsSingle : (ArcRef → Option ArcRef) → List Bool → List (List ArcRef) → ArcRef → List Bool → List (List ArcRef) → Type 0
AddsSingle partner left runs a after more =
    (((b : ArcRef) × (partner (flipped a) ≡ Some b)) × (after ≡ left) × (more ≡ runs)) ⊎ AddsStarted partner left runs a after more

-- each goes on to the next
abbrev pub Linked : (ArcRef → Option ArcRef) → ArcRef → List ArcRef → Type 0
Linked partner a [] = Unit {0}
Linked partner a (b ∷ more) = (partner (flipped a) ≡ Some b) × Linked partner b more

-- who goes on from whom is mutual, among the marked
abbrev pub ArePaired : List Bool → (ArcRef → Option ArcRef) → Type 0
ArePaired marks partner =
    (a b : ArcRef) → is_left marks a.arc ≡ true → partner a ≡ Some b → (is_left marks b.arc ≡ true) × (partner b ≡ Some a) × (¬ (a ≡ b))

-- the used arcs go on from one another, none twice, and from end to end, or round
pub record IsWalked (marks : List Bool) (partner : ArcRef → Option ArcRef) (a : ArcRef) (more : List ArcRef) : Type 0 where
  pub linked : Linked partner a more
  pub once : UsesOnce (a ∷ more)
  pub stays : (k : ℕ) → Uses k (a ∷ more) → is_left marks k ≡ true
  pub ends : ((partner a ≡ None) × (partner (flipped (last_of a more)) ≡ None)) ⊎ (partner (flipped (last_of a more)) ≡ Some a)

abbrev pub IsRun : List Bool → (ArcRef → Option ArcRef) → List ArcRef → Type 0
IsRun marks partner [] = ⊥
IsRun marks partner (a ∷ more) = IsWalked marks partner a more

-- what holds between two walks
pub record AreWalked (marks : List Bool) (partner : ArcRef → Option ArcRef) (left : List Bool) (runs : List (List ArcRef)) : Type 0 where
  pub within : (k : ℕ) → is_left left k ≡ true → is_left marks k ≡ true
  pub closed : (a b : ArcRef) → is_left marks a.arc ≡ true → partner a ≡ Some b → is_left left a.arc ≡ false → is_left left b.arc ≡ false
  pub each : (r : List ArcRef) → Has r runs → IsRun marks partner r
  pub all : (k : ℕ) → is_left marks k ≡ true → is_left left k ≡ false → (r : List ArcRef) × Has r runs × Uses k r
  pub taken : (k : ℕ) (r : List ArcRef) → Has r runs → Uses k r → is_left left k ≡ false
  pub apart : (k : ℕ) (r q : List ArcRef) → Has r runs → Has q runs → Uses k r → Uses k q → r ≡ q

-- the arcs at which nothing goes on are gone
abbrev pub EndsGone : List Bool → (ArcRef → Option ArcRef) → List Bool → Type 0
EndsGone marks partner left = (b : ArcRef) → is_left marks b.arc ≡ true → partner b ≡ None → is_left left b.arc ≡ false

-- runs that use each marked arc, each by one run
pub record AreRuns (marks : List Bool) (partner : ArcRef → Option ArcRef) (runs : List (List ArcRef)) : Type 0 where
  pub each : (r : List ArcRef) → Has r runs → IsRun marks partner r
  pub all : (k : ℕ) → is_left marks k ≡ true → (r : List ArcRef) × Has r runs × Uses k r
  pub apart : (k : ℕ) (r q : List ArcRef) → Has r runs → Has q runs → Uses k r → Uses k q → r ≡ q
