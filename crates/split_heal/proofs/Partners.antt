-- Which used arc goes on from another, told by the ends of arcs that meet at vertices.
use Rattle.std.proofs.Common.{◌≡◌, ◌↔◌, ℕ, zero, suc, Bool, true, false, cond, List, [], ◌∷◌, reverse, ◌⊎◌, inl, inr, refl, sym, ap, ◌∙◌, subst, option_map, Option, Some, None, slice_get}
use Rattle.grid.specs.declared.pos.Pos.{Pos}
use Rattle.lines.specs.Turned.{position_cmp}
use Rattle.lines.specs.Positions.{position_total, position_same}
use Rattle.lines.proofs.Positions.{position_dec, true_false}
use Rattle.theory.specs.ArcNumbers.{ArcRef, StitchTo, Uses, along}
use Rattle.theory.specs.Geometry.{Geometry, IsChainOf, JunctionOf}
use Rattle.theory.specs.LinesAndRings.{closed}
use Rattle.theory.specs.Lists.{Has}
use Rattle.theory.specs.Healing.{IsKept, KeptLaws, ThreeMeet}
use Rattle.theory.specs.HealingLaws.{IsLeft}
use Rattle.theory.specs.Validity.{BeginsAt}
use Rattle.theory.specs.TopologyFunction.{is_junction}
use Rattle.theory.proofs.ArcNumbers.{taken_of, uses_along}
use Rattle.theory.proofs.JunctionTest.{is_answered, junction_means}
use Rattle.theory.proofs.OneTopology.{along_chain}
use Rattle.theory.proofs.HealingProved.{kept_arcs_tell, two_ends_meet}
use Rattle.arcs.specs.Arcs.{Arcs}
use Rattle.split_heal.specs.Choosing.{kept_numbers}
use Rattle.split_heal.specs.PseudoNodes.{ArePartners, Begins, IsVerdict, ThreeOf, partner_in}
use Rattle.split_heal.specs.Healing.{IsLeftBy}
use Rattle.split_heal.specs.Walks.{ArePaired, is_left}
use Rattle.split_heal.specs.declared.pseudo_nodes.PseudoNodes.{PseudoNodes}
use Rattle.split_heal.proofs.Choices.{numbers_are}
use Rattle.split_heal.proofs.PartnersMeet.{at_begins, begins_at}

mark_is : (l : List Bool) (k : ℕ) → is_left l k ≡ true → slice_get l k ≡ Some true
mark_is [] k e = absurd (let f : false ≡ true = e in cc)
mark_is (b ∷ l) zero e = ap Some e
mark_is (b ∷ l) (suc k) e = mark_is l k e

is_mark : (l : List Bool) (k : ℕ) → slice_get l k ≡ Some true → is_left l k ≡ true
is_mark [] k e = absurd cc
is_mark (b ∷ l) zero e = let f : Some b ≡ Some true = e in cc
is_mark (b ∷ l) (suc k) e = is_mark l k e

-- the meeting tells of each end of a marked arc where it goes on
abbrev pub AreAnswered : Arcs → List Bool → List Pos → PseudoNodes → Type 0
AreAnswered old marks ending m =
    (v : Pos) (a : ArcRef) → Begins old.arcs v (kept_numbers 0 marks) a → IsVerdict (Has v ending) (Begins old.arcs v (kept_numbers 0 marks)) (partner_in m) a

module _ (g u : Geometry Pos) (old : Arcs) (marks : List Bool) (ending : List Pos) (left : IsLeftBy g u old marks ending) (m : PseudoNodes) (met : AreAnswered old marks ending m) where
  abbrev pub Kept : ℕ → Type 0
  Kept = IsKept position_cmp g u old.arcs

  abbrev ks : List ℕ
  ks = kept_numbers 0 marks

  abbrev P : ArcRef → Option ArcRef
  P = partner_in m

  pub is_part : IsLeft position_cmp g u old.arcs
  is_part = record {
    order = record { total = position_total; same = position_same };
    sound = left.sound;
    arcs = left.table.arcs;
    part = left.part;
  }

  pub laws : KeptLaws position_cmp g u old.arcs
  laws = kept_arcs_tell position_cmp g u old.arcs is_part

  kept_are : (k : ℕ) → Has k ks ↔ Kept k
  kept_are k = ((λ h. (left.kept k).0 ((numbers_are marks k).0 h)), (λ h. (numbers_are marks k).1 ((left.kept k).1 h)))

  pub marked_kept : (k : ℕ) → is_left marks k ≡ true → Kept k
  marked_kept k e = (left.kept k).0 (mark_is marks k e)

  pub kept_marked : (k : ℕ) → Kept k → is_left marks k ≡ true
  kept_marked k h = is_mark marks k ((left.kept k).1 h)

  -- a kept arc is one of the table
  used_there : (used : List ArcRef) (l : List Pos) → StitchTo old.arcs used l → (k : ℕ) → Uses k used → (d : List Pos) × (slice_get old.arcs k ≡ Some d)
  used_there [] l st k h = absurd h
  used_there (b ∷ used) [] st k h = absurd st
  used_there (b ∷ used) (x ∷ r) st k h =
      let t = taken_of old.arcs x (b ∷ used) r st in
      let w = uses_along old.arcs (b ∷ used) t.0 t.1 k h in
      (w.2, w.3)

  pub kept_there : (k : ℕ) → Kept k → (d : List Pos) × (slice_get old.arcs k ≡ Some d)
  kept_there k (inl (l, used, i, st, us)) = used_there used l st k us
  kept_there k (inr (r, used, i, st, us)) = used_there used (closed (st.0 ∷ st.1)) st.3 k us

  -- what a kept used arc runs along
  pub first : (a : ArcRef) → Kept a.arc → (v : Pos) × (q : List Pos) × (along old.arcs a ≡ Some (v ∷ q))
  first a k =
      let (d, e) = kept_there a.arc k in
      let f : along old.arcs a ≡ Some (cond a.reversed (reverse d) d) = ap (option_map (λ c. cond a.reversed (reverse c) c)) e in
      go (cond a.reversed (reverse d) d) f (along_chain position_cmp position_total position_same position_dec u left.sound old.arcs left.table.arcs a (cond a.reversed (reverse d) d) f)
    where
      go : (c : List Pos) → along old.arcs a ≡ Some c → IsChainOf position_cmp u c → (v : Pos) × (q : List Pos) × (along old.arcs a ≡ Some (v ∷ q))
      go [] e k = absurd k
      go (v ∷ q) e k = (v, q, e)

  begins : (v : Pos) (p : ArcRef) → Kept p.arc → BeginsAt old.arcs v p → Begins old.arcs v ks p
  begins v p k b = ((kept_are p.arc).1 k, at_begins old.arcs v p b)

  -- b goes on from where a begins, at v
  pub record Meets (a b : ArcRef) (v : Pos) : Type 0 where
    pub here : BeginsAt old.arcs v a
    pub there : BeginsAt old.arcs v b
    pub no_stop : ¬ JunctionOf g v
    pub kept : Kept b.arc
    pub back : P b ≡ Some a
    pub apart : ¬ (a ≡ b)

  -- no junction where two ends meet
  two_open : (v : Pos) (a b : ArcRef) → ArePartners (Has v ending) (Begins old.arcs v ks) P a b → ¬ JunctionOf g v
  two_open v a b w j = elim ((laws.junctions v).0 j) [ inl h ↦ w.no_end ((left.ends v).1 h) | inr h ↦ three h ]
    where
      three : ¬ ThreeMeet Kept old.arcs v
      three t =
          elim (w.only t.0 (begins v t.0 t.3 t.6)) [
            | inl e ↦ elim (w.only t.1 (begins v t.1 t.4 t.7)) [
              | inl f ↦ t.9 (e ∙ sym f)
              | inr f ↦ elim (w.only t.2 (begins v t.2 t.5 t.8)) [ inl g ↦ t.10 (e ∙ sym g) | inr g ↦ t.11 (f ∙ sym g) ]
            ]
            | inr e ↦ elim (w.only t.1 (begins v t.1 t.4 t.7)) [
              | inr f ↦ t.9 (e ∙ sym f)
              | inl f ↦ elim (w.only t.2 (begins v t.2 t.5 t.8)) [ inr g ↦ t.10 (e ∙ sym g) | inl g ↦ t.11 (f ∙ sym g) ]
            ]
          ]

  partners_meet : (a b : ArcRef) (v : Pos) → BeginsAt old.arcs v a → ArePartners (Has v ending) (Begins old.arcs v ks) P a b → Meets a b v
  partners_meet a b v here w = record {
    here = here;
    there = begins_at old.arcs v b w.meets.1;
    no_stop = two_open v a b w;
    kept = (kept_are b.arc).0 w.meets.0;
    back = w.back;
    apart = w.apart;
  }

  -- a partner is a kept arc that begins there, too, and no junction is left there
  pub meets : (a b : ArcRef) → Kept a.arc → P a ≡ Some b → (v : Pos) × Meets a b v
  meets a b k e =
      let (v, q, al) = first a k in
      let here : BeginsAt old.arcs v a = (q, al) in
      (v, at_vertex v here (met v a (begins v a k here)))
    where
      at_vertex : (v : Pos) → BeginsAt old.arcs v a → IsVerdict (Has v ending) (Begins old.arcs v ks) P a → Meets a b v
      at_vertex v here (inl s) = absurd (let z : None ≡ Some b = sym s.none ∙ e in cc)
      at_vertex v here (inr (c, w)) =
          let same : c ≡ b = (let z : Some c ≡ Some b = sym w.there ∙ e in cc) in
          subst (λ z. Meets a z v) same (partners_meet a c v here w)

  stopped : (a : ArcRef) (v : Pos) → Kept a.arc → BeginsAt old.arcs v a → Has v ending ⊎ (((p : ArcRef) → Begins old.arcs v ks p → p ≡ a) ⊎ ThreeOf (Begins old.arcs v ks)) → JunctionOf g v
  stopped a v ka here (inl h) = (laws.junctions v).1 (inl ((left.ends v).0 h))
  stopped a v ka here (inr (inr w)) =
      (laws.junctions v).1 (inr (
        w.one,
        w.two,
        w.three,
        (kept_are w.one.arc).0 w.has_one.0,
        (kept_are w.two.arc).0 w.has_two.0,
        (kept_are w.three.arc).0 w.has_three.0,
        begins_at old.arcs v w.one w.has_one.1,
        begins_at old.arcs v w.two w.has_two.1,
        begins_at old.arcs v w.three w.has_three.1,
        w.one_two,
        w.one_three,
        w.two_three,
      ))
  stopped a v ka here (inr (inl only)) = go (is_junction position_cmp g v) refl
    where
      go : (b : Bool) → is_junction position_cmp g v ≡ b → JunctionOf g v
      go true f = junction_means position_cmp position_total position_same g v f
      go false f =
          let two = two_ends_meet position_cmp g u old.arcs is_part v a ka here
          (λ j. true_false (is_junction position_cmp g v) (is_answered position_cmp position_total position_same g v j) f) in
          absurd (two.1 (sym (only two.0 (begins v two.0 two.2 two.3))))

  -- where none is, a junction is left
  pub alone : (a : ArcRef) → Kept a.arc → P a ≡ None → (v : Pos) × BeginsAt old.arcs v a × JunctionOf g v
  alone a k e =
      let (v, q, al) = first a k in
      let here : BeginsAt old.arcs v a = (q, al) in
      (v, here, at_vertex v here (met v a (begins v a k here)))
    where
      at_vertex : (v : Pos) → BeginsAt old.arcs v a → IsVerdict (Has v ending) (Begins old.arcs v ks) P a → JunctionOf g v
      at_vertex v here (inl s) = stopped a v k here s.why
      at_vertex v here (inr (c, w)) = absurd (let z : None ≡ Some c = sym e ∙ w.there in cc)

  pub paired : ArePaired marks P
  paired a b k e =
      let (v, t) = meets a b (marked_kept a.arc k) e in
      (kept_marked b.arc t.kept, t.back, t.apart)
