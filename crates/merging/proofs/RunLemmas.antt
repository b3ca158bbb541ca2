-- What is left to do of a plan that is run over a stack of shards.
use Rattle.std.proofs.Common.{◌≡◌, ℕ, ◌*◌, ◌<◌, ◌≤◌, Bool, true, false, List, [], ◌∷◌, ◌++◌, Bor, length, refl, sym, ◌∙◌, ap, subst, arith}
use Rattle.std.specs.Prelude.{map as map_list, reverse, All, IsErrOf, IsOkUnless, Some, Result, Ok, Err, ◌↔◌}
use Rattle.std.proofs.lemmas.List.{reverse-append, length-reverse}
use Rattle.std.proofs.lemmas.List.Elements.{All-pop}
use Rattle.grid.specs.Place.{Transform}
use Rattle.shapes.specs.Maps.{Layers}
use Rattle.shapes.specs.Union.{union}
use Rattle.merging.specs.Plans.{AreOnOneGrid}
use Rattle.merging.specs.declared.fault.JoinFault.{JoinFault}
use Rattle.merging.specs.declared.fault.JoinFault.TheVariants.{OtherGrid, OutOfMemory}
use Rattle.merging.specs.declared.plan.Plan.{Plan}
use Rattle.merging.specs.declared.plan.Plan.TheVariants.{Leaf}
use Rattle.merging.specs.declared.plan.running.Task.{Task}
use Rattle.merging.specs.declared.plan.running.Task.TheVariants.{Run, Join}
use Rattle.merging.specs.Leaves.{leaves, HasIndexes}
use Rattle.merging.specs.Plans.{union_at}
use Rattle.merging.specs.Running.{LastJoined}
use Rattle.merging.proofs.PlanSizes.{size}
use Rattle.merging.proofs.PlanLemmas.{union_at-append}

-- less for the tasks that a task is taken apart into
abbrev pub task_size : Task → ℕ
task_size (Run r) = 2 * size r.now
task_size Join = 1

-- the tasks, the next one first, make of the stack, the shard made last first, one shard of the map
abbrev pub Gives : {S : Type 0} → (S → Layers) → List S → List Task → List S → Layers → Type 0
Gives {S = S} map_of shards [] stack m = (s : S) × (stack ≡ s ∷ []) × (map_of s ≡ m)
Gives {S = S} map_of shards (Run r ∷ tasks) stack m =
    HasIndexes (length shards) r.now × ((s : S) → map_of s ≡ union_at (map_list map_of shards) (leaves r.now) → Gives map_of shards tasks (s ∷ stack) m)
Gives {S = S} map_of shards (Join ∷ tasks) [] m = ⊥
Gives {S = S} map_of shards (Join ∷ tasks) (b ∷ []) m = ⊥
Gives {S = S} map_of shards (Join ∷ tasks) (b ∷ a ∷ stack) m = (s : S) → map_of s ≡ union (map_of a) (map_of b) → Gives map_of shards tasks (s ∷ stack) m

-- the last of a list is the first of the list turned round
pub last_first : {X : Type 0} (old new : List X) (x : X) → old ≡ new ++ (x ∷ []) → reverse old ≡ x ∷ reverse new
last_first old new x e = ap reverse e ∙ reverse-append new (x ∷ [])

module _ {S : Type 0} (map_of : S → Layers) (shards : List S) where
  -- a plan alone is left, and nothing is made yet
  pub all_left : (r : Bor Plan) (none tasks : List Task) (made : List S) → none ≡ [] → tasks ≡ none ++ (Run r ∷ []) → made ≡ [] → HasIndexes (length shards) r.now →
      Gives map_of shards (reverse tasks) (reverse made) (union_at (map_list map_of shards) (leaves r.now))
  all_left r none tasks made n e k h =
      let m = union_at (map_list map_of shards) (leaves r.now) in
      let start : Gives map_of shards (Run r ∷ []) [] m = (h, λ s is. (s, refl, is)) in
      let tasks_are : reverse tasks ≡ Run r ∷ [] = last_first tasks none (Run r) e ∙ ap (λ w. Run r ∷ reverse w) n in
      let made_is : reverse made ≡ [] = ap reverse k in
      subst (λ w. Gives map_of shards w (reverse made) m) (sym tasks_are) (subst (λ w. Gives map_of shards (Run r ∷ []) w m) (sym made_is) start)

  -- the next task is taken
  pub taken : (old new : List Task) (t : Task) (stack : List S) (m : Layers) → old ≡ new ++ (t ∷ []) → Gives map_of shards (reverse old) stack m → Gives map_of shards (t ∷ reverse new) stack m
  taken old new t stack m e h = subst (λ w. Gives map_of shards w stack m) (last_first old new t e) h

  pub leaf_index : (r : Bor Plan) (i : ℕ) (tasks : List Task) (stack : List S) (m : Layers) → Gives map_of shards (Run r ∷ tasks) stack m → r.now ≡ Leaf i → i < length shards
  leaf_index r i tasks stack m h e = subst (HasIndexes (length shards)) e h.0

  -- a leaf is copied
  pub leaf_made : (r : Bor Plan) (i : ℕ) (tasks : List Task) (made more : List S) (s : S) (m : Layers) → Gives map_of shards (Run r ∷ tasks) (reverse made) m → r.now ≡ Leaf i →
      map_of s ≡ union_at (map_list map_of shards) (i ∷ []) → more ≡ made ++ (s ∷ []) → Gives map_of shards tasks (reverse more) m
  leaf_made r i tasks made more s m h e is k =
      subst (λ w. Gives map_of shards tasks w m) (sym (last_first more made s k)) (h.1 s (is ∙ ap (λ p. union_at (map_list map_of shards) (leaves p)) (sym e)))

  -- a node is taken apart
  pub parts_left : (r a b : Bor Plan) (tasks one two three : List Task) (stack : List S) (m : Layers) → Gives map_of shards (Run r ∷ reverse tasks) stack m →
      leaves r.now ≡ leaves a.now ++ leaves b.now → (HasIndexes (length shards) r.now → HasIndexes (length shards) a.now × HasIndexes (length shards) b.now) →
      one ≡ tasks ++ (Join ∷ []) → two ≡ one ++ (Run b ∷ []) → three ≡ two ++ (Run a ∷ []) → Gives map_of shards (reverse three) stack m
  parts_left r a b tasks one two three stack m h parts indexes e f g =
      let ms = map_list map_of shards in
      let split = indexes h.0 in
      let apart : Gives map_of shards (Run a ∷ (Run b ∷ (Join ∷ reverse tasks))) stack m =
      (split.0, λ s is. (split.1, λ t it. λ u iu. h.1 u (iu ∙ (λ i. union (is i) (it i)) ∙ sym (union_at-append ms (leaves a.now) (leaves b.now)) ∙ ap (union_at ms) (sym parts)))) in
      let order : reverse three ≡ Run a ∷ (Run b ∷ (Join ∷ reverse tasks)) =
      last_first three two (Run a) g ∙ ap (λ w. Run a ∷ w) (last_first two one (Run b) f ∙ ap (λ w. Run b ∷ w) (last_first one tasks Join e)) in
      subst (λ w. Gives map_of shards w stack m) (sym order) apart

  -- the two shards made last are joined
  pub two_joined : (tasks : List Task) (made more : List S) (m : Layers) → Gives map_of shards (Join ∷ tasks) (reverse made) m → LastJoined map_of made more → Gives map_of shards tasks (reverse more) m
  two_joined tasks made more m h j =
      let stack : reverse made ≡ j.second ∷ (j.first ∷ reverse j.all_but_two) =
      last_first made j.all_but_one j.second j.takes_second ∙ ap (λ w. j.second ∷ w) (last_first j.all_but_one j.all_but_two j.first j.takes_first) in
      let ready : Gives map_of shards (Join ∷ tasks) (j.second ∷ (j.first ∷ reverse j.all_but_two)) m = subst (λ w. Gives map_of shards (Join ∷ tasks) w m) stack h in
      subst (λ w. Gives map_of shards tasks w m) (sym (last_first more j.all_but_two j.joined j.puts)) (ready j.joined j.union_of)

  -- two shards are made
  pub two_made : (tasks : List Task) (made : List S) (m : Layers) → Gives map_of shards (Join ∷ tasks) (reverse made) m → 2 ≤ length made
  two_made tasks made m h = let e = length-reverse made in go (reverse made) e h
    where
      go : (stack : List S) → length stack ≡ length made → Gives map_of shards (Join ∷ tasks) stack m → 2 ≤ length made
      go [] e h = absurd h
      go (b ∷ []) e h = absurd h
      go (b ∷ a ∷ stack) e h = omega arith

  pub one_made : (made : List S) (m : Layers) → Gives map_of shards [] (reverse made) m → made ≡ [] → ⊥
  one_made made m h e = let order : [] ≡ h.0 ∷ [] = sym (ap reverse e) ∙ h.1 in cc

-- the two shards made last are on the grid, and so are the others
pub all_but_two : {S : Type 0} (P : S → Type 0) (made first second : List S) (a b : S) → All P made → made ≡ first ++ (b ∷ []) → first ≡ second ++ (a ∷ []) → All P second × P a × P b
all_but_two P made first second a b h e f =
    let one = All-pop P made first (Some b) e h in
    let two = All-pop P first second (Some a) f one.0 in (two.0, two.1, one.1)

-- a join of shards on one grid lacks memory, or nothing
pub only_memory : {S : Type 0} (g h : Transform) (f : JoinFault) (r : Result S JoinFault) → r ≡ Err f → ((r ≡ Err OtherGrid) ↔ ¬ (g ≡ h)) → g ≡ h → f ≡ OutOfMemory
only_memory g h OtherGrid r is told same = absurd (told.0 is same)
only_memory g h OutOfMemory r is told same = refl

no_both : true ≡ false → ⊥
no_both e = cc

memory_is_no_grid : {T : Type 0} (r : Result T JoinFault) → IsOkUnless r OutOfMemory → IsErrOf r OtherGrid → ⊥
memory_is_no_grid (Ok s) w e = cc
memory_is_no_grid (Err OtherGrid) w e = cc
memory_is_no_grid (Err OutOfMemory) w e = cc

module _ {S T : Type 0} (f : S → Transform) (ss all : List S) (b : Bool) (told : (b ≡ true) ↔ AreOnOneGrid f ss) (same : ss ≡ all) where
  -- shards that are not on one grid are refused for it
  pub refused_off_grid : b ≡ false → IsErrOf {T = T} (Err OtherGrid) OtherGrid ↔ ¬ AreOnOneGrid f all
  refused_off_grid off = (λ e one. no_both (sym (told.1 (subst (AreOnOneGrid f) (sym same) one)) ∙ off), λ n. refl)

  -- shards on one grid are refused for want of memory alone
  pub refused_for_memory : b ≡ true → (r : Result T JoinFault) → ((g : Transform) → All (λ s. f s ≡ g) all → IsOkUnless r OutOfMemory) → IsErrOf r OtherGrid ↔ ¬ AreOnOneGrid f all
  refused_for_memory on r memory =
      let one = subst (AreOnOneGrid f) same (told.0 on) in
      (λ e. absurd (memory_is_no_grid r (memory one.0 one.1) e), λ n. absurd (n one))
