-- What changes do, and why they are refused.
use Rattle.std.proofs.Common.{◌≡◌, ◌∙◌, ◌≤◌, ◌<◌, ◌+◌, ◌∷◌, [], ℕ, zero, suc, Bool, true, false, List, ap, arith, drop, drop-cons, get_or, inl, inr, length, nat_eq, refl, subst, sym}
use Rattle.std.specs.FinMap as map
use Rattle.grid.specs.Place.{Transform}
use Rattle.merging.specs.Laws.{union_commutes, union_empty}
use Rattle.refine.specs.Edits.{IsEditedTo, IsOnGrid}
use Rattle.refine.specs.declared.edit.Edit.{Edit}
use Rattle.refine.specs.declared.edit.Edit.TheVariants.{Join, Remove}
use Rattle.topo.specs.LayerLaws.Less.{less}
use Rattle.topo.proofs.LayerLawsLemmas.OneMap.{one_map}
use Rattle.shapes.specs.Maps.{Layers}
use Rattle.shapes.specs.Union.{union}
use Rattle.topo.specs.OfMap.{IsOf}
use Rattle.topo.specs.Parts.{TopologyParts}
use Rattle.topo_io.specs.Canon.{canon}
use Rattle.topo_io.specs.Means.{Means, MeansTopology}
use Rattle.noshinka.specs.Editing.{AreChanged, IsChanged, IsChangeRefusal, IsEditAnswer, IsEditOf, IsEditOn, IsEditRefusal, IsFirstChange, with_or_less}
use Rattle.c_calls.specs.Why.{IsChoiceRefusal, IsTextRefusal}
use Rattle.noshinka.specs.declared.editing.Change.{Change}
use Rattle.c_calls.specs.declared.refusal.CallRefusal.{CallRefusal}
use Rattle.c_calls.specs.declared.refusal.CallRefusal.TheVariants.{OtherGrid, OutOfMemory}

pub join_edit : (t : TopologyParts) → IsEditOf false t (Join t)
join_edit t = (refl, λ m n k of h. h.2 ∙ ap (union m) (one_map t h.0 k h.1 of))

-- the same where no removal is asked for
pub join_if : (b : Bool) (t : TopologyParts) → b ≡ false → IsEditOf b t (Join t)
join_if b t is = subst (λ x. IsEditOf x t (Join t)) (sym is) (join_edit t)

pub remove_edit : (t : TopologyParts) (r : Layers) → ((m : Layers) → IsOf m t → r ≡ m) → IsEditOf true t (Remove r)
remove_edit t r only = (tt, λ m n k of h. h ∙ ap (less m) (only k of))

-- the edit of a topology that the text of a change means, on the grid
pub edit_on : (g : Transform) (c : Change) (b : Bool) (t : TopologyParts) (e : Edit) → c.kind < 2 → b ≡ nat_eq c.kind 1 → MeansTopology c.text.now t → g ≡ t.grid → IsEditOf b t e → IsEditOn g c e
edit_on g c b t e kind is meant same (on, does) =
    let (m, means, of) = meant in (
      subst (λ x. IsOnGrid x e) (sym same) on,
      (m, ((kind, subst (λ x. Means c.text.now x m) (sym same) means), λ k n h. subst (λ x. n ≡ with_or_less x k m) is (does k n m of h))),
    )

pub change_memory : (g : Transform) (place : ℕ) (c : Change) → IsChangeRefusal g place c OutOfMemory
change_memory g place c = inl refl

pub change_kind : (g : Transform) (place : ℕ) (c : Change) (r : CallRefusal) → IsChoiceRefusal (2 ≤ c.kind) r → IsChangeRefusal g place c r
change_kind g place c r h = inr (inl h)

pub change_text : (g : Transform) (place : ℕ) (c : Change) (r : CallRefusal) → IsTextRefusal place c.text.now r → IsChangeRefusal g place c r
change_text g place c r h = inr (inr (inl h))

pub change_grid : (g : Transform) (place : ℕ) (c : Change) (t : TopologyParts) → MeansTopology c.text.now t → (g ≡ t.grid → ⊥) → IsChangeRefusal g place c (OtherGrid place)
change_grid g place c t meant apart =
    let (m, means, of) = meant in
    inr (inr (inr (refl, λ e. apart (e ∙ sym means.grid))))

-- what an edit of a change does is what the change does
pub changed_by : (g : Transform) (m n : Layers) (c : Change) (e : Edit) → IsEditOn g c e → IsEditedTo m e n → IsChanged g m c n
changed_by g m n c e on h =
    let (k, (means, does)) = on.1 in
    (k, (means, does m n h))

-- a change, and the others behind it
pub changed_more : (g : Transform) (m k n : Layers) (c : Change) (cs all : List Change) → all ≡ c ∷ cs → IsChanged g m c k → AreChanged g k cs n → AreChanged g m all n
changed_more g m k n c cs all e h more = subst (λ l. AreChanged g m l n) (sym e) (k, (h, more))

-- a change that is refused, and the others behind it
pub refused_now : (g : Transform) (place : ℕ) (c : Change) (cs all : List Change) (r : CallRefusal) → all ≡ c ∷ cs → IsChangeRefusal g place c r → IsFirstChange g place all r
refused_now g place c cs all r e h = subst (λ l. IsFirstChange g place l r) (sym e) (inl h)

-- one behind a change that is done
pub refused_later : (g : Transform) (place : ℕ) (m k : Layers) (c : Change) (cs all : List Change) (r : CallRefusal) → all ≡ c ∷ cs → IsChanged g m c k → IsFirstChange g (place + 1) cs r → IsFirstChange g place all r
refused_later g place m k c cs all r e h more = subst (λ l. IsFirstChange g place l r) (sym e) (inr ((h.0, h.1.0), more))

-- the features of a topology, joined to none, are its own
pub joined_to_none : (t : TopologyParts) (n m : Layers) → IsOf m t → IsEditedTo map.empty (Join t) n → n ≡ m
joined_to_none t n m of h = h.2 ∙ ap (union map.empty) (one_map t h.0 m h.1 of) ∙ union_commutes map.empty m ∙ union_empty m

pub edit_answer : (text t : List ℕ) (changes : List Change) (whole : TopologyParts) → MeansTopology text whole → (g : Transform) (start end : Layers) → g ≡ whole.grid → ((m : Layers) → IsOf m whole → start ≡ m) →
    AreChanged g start changes end → t ≡ canon g end → IsEditAnswer text changes t
edit_answer text t changes whole meant g start end same is changed written =
    let (m, means, of) = meant in
    record {
      grid = g;
      map = start;
      means = subst (λ x. Means text x start) (sym same) (subst (λ x. Means text whole.grid x) (sym (is m of)) means);
      edited = end;
      changed = changed;
      is = written;
    }

pub edit_memory : (text : List ℕ) (changes : List Change) → IsEditRefusal text changes OutOfMemory
edit_memory text changes = inl refl

pub edit_text : (text : List ℕ) (changes : List Change) (r : CallRefusal) → IsTextRefusal 0 text r → IsEditRefusal text changes r
edit_text text changes r h = inr (inl h)

pub edit_change : (text : List ℕ) (changes : List Change) (whole : TopologyParts) → MeansTopology text whole → (g : Transform) → g ≡ whole.grid → (r : CallRefusal) → IsFirstChange g 1 changes r → IsEditRefusal text changes r
edit_change text changes whole meant g same r h =
    let (m, means, of) = meant in
    inr (inr (subst (λ x. IsFirstChange x 1 changes r) (same ∙ means.grid) h))

-- the next change, and those behind it
next_change : (cs : List Change) (n : ℕ) (d : Change) → n < length cs → drop n cs ≡ get_or cs n d ∷ drop (n + 1) cs
next_change cs n d within =
    let step : suc n ≡ n + 1 = omega arith in
    drop-cons cs n d within ∙ ap (λ k. get_or cs n d ∷ drop k cs) step

-- the change at a place is done: what the others do or refuse, it and they do or refuse
pub change_done : (g h : Transform) (before after : Layers) (cs : List Change) (n : ℕ) (d : Change) → n < length cs → h ≡ g → IsChanged h before (get_or cs n d) after → (m : Layers) →
    AreChanged g after (drop (n + 1) cs) m → AreChanged g before (drop n cs) m
change_done g h before after cs n d within same done m more =
    changed_more g before after m (get_or cs n d) (drop (n + 1) cs) (drop n cs) (next_change cs n d within) (subst (λ x. IsChanged x before (get_or cs n d) after) same done) more

pub change_passed : (g h : Transform) (before after : Layers) (cs : List Change) (n : ℕ) (d : Change) → n < length cs → h ≡ g → IsChanged h before (get_or cs n d) after → (r : CallRefusal) →
    IsFirstChange g ((n + 1) + 1) (drop (n + 1) cs) r → IsFirstChange g (n + 1) (drop n cs) r
change_passed g h before after cs n d within same done r more =
    refused_later g (n + 1) before after (get_or cs n d) (drop (n + 1) cs) (drop n cs) r (next_change cs n d within) (subst (λ x. IsChanged x before (get_or cs n d) after) same done) more

-- it is refused
pub change_refused : (g h : Transform) (cs : List Change) (n : ℕ) (d : Change) (r : CallRefusal) → n < length cs → h ≡ g → IsChangeRefusal h (n + 1) (get_or cs n d) r → IsFirstChange g (n + 1) (drop n cs) r
change_refused g h cs n d r within same why =
    refused_now g (n + 1) (get_or cs n d) (drop (n + 1) cs) (drop n cs) r (next_change cs n d within) (subst (λ x. IsChangeRefusal x (n + 1) (get_or cs n d) r) same why)

-- behind the last of a list is none
pub none_left : {X : Type 0} (cs : List X) (n : ℕ) → length cs ≤ n → drop n cs ≡ []
none_left [] zero past = refl
none_left [] (suc n) past = refl
none_left (x ∷ cs) zero past = absurd (omega (arith, past))
none_left (x ∷ cs) (suc n) past = none_left cs n (omega (arith, past))
