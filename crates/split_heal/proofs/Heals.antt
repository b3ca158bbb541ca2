-- What runs are joined to is what is left of the table.
use Rattle.std.proofs.Common.{◌≡◌, ◌≤◌, ℕ, zero, suc, Bool, true, false, cond, List, [], ◌∷◌, ◌++◌, take, drop, length, map, replicate, reverse, slice_get, ◌⊎◌, inl, inr, refl, sym, ap, ◌∙◌, subst, arith, Option, Some, None}
use Rattle.std.specs.declared.cmp.Ordering.TheVariants.{Less}
use Rattle.grid.specs.declared.pos.Pos.{Pos}
use Rattle.lines.specs.Turned.{list_cmp, position_cmp}
use Rattle.lines.specs.Positions.{position_total, position_same}
use Rattle.lines.proofs.Positions.{position_dec}
use Rattle.theory.specs.ArcNumbers.{ArcRef, StitchTo, Uses, backwards, flipped}
use Rattle.theory.specs.Arcs.{AreSortedOnce}
use Rattle.theory.specs.Chain.{Free}
use Rattle.theory.specs.Geometry.{Geometry, IsChainOf, IsSound, JunctionOf}
use Rattle.theory.specs.LinesAndRings.{closed}
use Rattle.theory.specs.Lists.{Distinct, Has, Pairwise, last_of}
use Rattle.theory.specs.Refinement.{ArePiecesOfArc, IsRefinementOf, pieces_at}
use Rattle.theory.specs.Healing.{AreJoined, IsKept, IsLoopRun, IsOpenRun}
use Rattle.theory.specs.Validity.{BeginsAt}
use Rattle.theory.proofs.GroupedPieces.{uses_parts}
use Rattle.theory.proofs.ListsOfLists.{Has-map, get_has, map_has}
use Rattle.theory.proofs.ProvedLaws.{each_segment_once}
use Rattle.theory.proofs.RefinementLaws.{pairwise_at}
use Rattle.theory.proofs.HealingKept.{part_sound}
use Rattle.theory.proofs.HealingProved.{joined_arcs_are_the_arcs}
use Rattle.theory.proofs.HealingWalks.{joined_apart, source}
use Rattle.theory.proofs.Reversing.{Has-reverse, reverse-snoc}
use Rattle.arcs.specs.Among.{Tells}
use Rattle.arcs.specs.Arcs.{Arcs}
use Rattle.arcs.specs.Pieces.{chain_of, is_backwards_less, least_direction}
use Rattle.arcs.specs.Table.{AreLoopsOf, located, number_in}
use Rattle.arcs.specs.declared.piece.Piece.{Piece}
use Rattle.chains.proofs.AllChains.{is_less, least_first}
use Rattle.arcs.proofs.Marks.{all_marked}
use Rattle.arcs.specs.Turning.{least_index}
use Rattle.arcs.proofs.TurnedLists.{turned_at}
use Rattle.split_heal.specs.Choosing.{kept_numbers}
use Rattle.split_heal.specs.HealedArcs.{started_at, chain_by, directed, from_least, goes_round, is_there, list_by, list_of_run, piece_by, piece_of_run, put_all, run_along}
use Rattle.split_heal.specs.PseudoNodes.{Begins, IsVerdict, partner_in}
use Rattle.split_heal.specs.HealedParts.{HealedParts}
use Rattle.split_heal.specs.Healing.{IsLeftBy, IsHealedOf}
use Rattle.split_heal.specs.Walks.{ArePaired, AreRuns, IsRun, IsWalked}
use Rattle.split_heal.specs.declared.pseudo_nodes.PseudoNodes.{PseudoNodes}
use Rattle.split_heal.proofs.Choices.{numbers_once}
use Rattle.split_heal.proofs.Partners as partners
use Rattle.split_heal.proofs.Partners.{AreAnswered}
use Rattle.split_heal.proofs.Placed as placed
use Rattle.split_heal.proofs.Placed.{length_put, length_same}
use Rattle.split_heal.proofs.RunsAre as runs_are
use Rattle.split_heal.proofs.RunsAre.{trail_turns}
use Rattle.split_heal.proofs.Stitches.{uses_again}
use Rattle.split_heal.proofs.WalkedRuns.{number_dec, uses_last}

-- what a list uses that is turned or read backwards
uses_joined : (k : ℕ) (a b : List ArcRef) → Uses k a ⊎ Uses k b → Uses k (a ++ b)
uses_joined k [] b (inl h) = absurd h
uses_joined k [] b (inr h) = h
uses_joined k (x ∷ a) b (inl (inl e)) = inl e
uses_joined k (x ∷ a) b (inl (inr h)) = inr (uses_joined k a b (inl h))
uses_joined k (x ∷ a) b (inr h) = inr (uses_joined k a b (inr h))

uses_directed : (b : Bool) (k : ℕ) (l : List ArcRef) → Uses k l → Uses k (directed b l)
uses_directed false k l h = h
uses_directed true k [] h = absurd h
uses_directed true k (x ∷ l) h =
    subst (Uses k) (sym (reverse-snoc (flipped x) (map flipped l)))
    (uses_joined k (backwards l) (flipped x ∷ []) (elim h [ inl e ↦ inr (inl e) | inr i ↦ inl (uses_directed true k l i) ]))

directed_uses : (b : Bool) (k : ℕ) (l : List ArcRef) → Uses k (directed b l) → Uses k l
directed_uses false k l h = h
directed_uses true k l h = uses_again k l h

take_drop : {A : Type 0} (i : ℕ) (l : List A) → take i l ++ drop i l ≡ l
take_drop zero l = refl
take_drop (suc i) [] = refl
take_drop (suc i) (x ∷ l) = ap (λ w. x ∷ w) (take_drop i l)

uses_started : (i k : ℕ) (l : List ArcRef) → Uses k l → Uses k (started_at i l)
uses_started i k l h =
    uses_joined k (drop i l) (take i l) (elim (uses_parts k (take i l) (drop i l) (subst (Uses k) (sym (take_drop i l)) h)) [ inl a ↦ inr a | inr a ↦ inl a ])

has_started : (i : ℕ) (b : ArcRef) (l : List ArcRef) → Has b (started_at i l) → Has b l
has_started i b l h = subst (Has b) (take_drop i l) (swap (drop i l) (take i l) h)
  where
    right : (s t : List ArcRef) → Has b t → Has b (s ++ t)
    right [] t h = h
    right (x ∷ s) t h = inr (right s t h)

    leftward : (s t : List ArcRef) → Has b s → Has b (s ++ t)
    leftward [] t h = absurd h
    leftward (x ∷ s) t (inl e) = inl e
    leftward (x ∷ s) t (inr h) = inr (leftward s t h)

    swap : (s t : List ArcRef) → Has b (s ++ t) → Has b (t ++ s)
    swap [] t h = leftward t [] h
    swap (x ∷ s) t (inl e) = right t (x ∷ s) (inl e)
    swap (x ∷ s) t (inr h) = between x s t (swap s t h)
      where
        between : (x : ArcRef) (s t : List ArcRef) → Has b (t ++ s) → Has b (t ++ (x ∷ s))
        between x s [] h = inr h
        between x s (y ∷ t) (inl e) = inl e
        between x s (y ∷ t) (inr h) = inr (between x s t h)

uses_or_not : (k : ℕ) (l : List ArcRef) → Uses k l ⊎ (¬ Uses k l)
uses_or_not k [] = inr (λ h. h)
uses_or_not k (x ∷ l) = elim (number_dec k x.arc) [
  | inl e ↦ inl (inl e)
  | inr n ↦ elim (uses_or_not k l) [ inl h ↦ inl (inr h) | inr m ↦ inr (λ h. elim h [ inl e ↦ n e | inr i ↦ m i ]) ]
]

common : (a b : List ArcRef) → ((k : ℕ) × Uses k a × Uses k b) ⊎ ((k : ℕ) → Uses k a → ¬ Uses k b)
common [] b = inr (λ k h. absurd h)
common (x ∷ a) b = elim (uses_or_not x.arc b) [
  | inl h ↦ inl (x.arc, inl refl, h)
  | inr n ↦ elim (common a b) [
    | inl t ↦ inl (t.0, inr t.1, t.2)
    | inr m ↦ inr (λ k h i. elim h [ inl e ↦ n (subst (λ w. Uses w b) e i) | inr j ↦ m k j i ])
  ]
]

module _ (g u : Geometry Pos) (old : Arcs) (marks : List Bool) (ending : List Pos) (left : IsLeftBy g u old marks ending) (m : PseudoNodes) (met : AreAnswered old marks ending m) where
  abbrev Kept : ℕ → Type 0
  Kept = IsKept position_cmp g u old.arcs

  abbrev pub P : ArcRef → Option ArcRef
  P = partner_in m

  abbrev J : Pos → Type 0
  J = JunctionOf g

  abbrev pub piece : List ArcRef → Piece
  piece = piece_of_run old.arcs P

  abbrev pub list : List ArcRef → List ArcRef
  list = list_of_run old.arcs P

  abbrev Joint : List Pos → List ArcRef → Type 0
  Joint c used = IsOpenRun Kept J old.arcs c used ⊎ IsLoopRun position_cmp Kept J old.arcs c used

  sg : IsSound g
  sg = part_sound g u left.sound left.part

  -- what a run is joined to
  record Told (r : List ArcRef) (round : Bool) : Type 0 where
    joint : Joint (piece_by old.arcs round r).chain (list_by old.arcs round (directed (is_backwards_less (chain_by old.arcs round r)) r))
    from : (k : ℕ) →
        Uses k (source position_cmp position_total position_same position_dec u left.sound old.arcs left.table.arcs g left.part (piece_by old.arcs round r).chain
        (list_by old.arcs round (directed (is_backwards_less (chain_by old.arcs round r)) r)) joint) → Uses k r
    turns : ¬ (chain_by old.arcs round r ≡ reverse (chain_by old.arcs round r))
    stops : round ≡ false → (v : Pos) × Has v (piece_by old.arcs round r).chain × J v
    loop : round ≡ true → IsLoopRun position_cmp Kept J old.arcs (piece_by old.arcs round r).chain (list_by old.arcs round (directed (is_backwards_less (chain_by old.arcs round r)) r))

  module _ (a : ArcRef) (more : List ArcRef) (w : IsWalked marks P a more) where
    abbrev x : Pos
    x = (runs_are.s g u old marks ending left m met a more w).begin

    abbrev rest : List Pos
    rest = (runs_are.s g u old marks ending left m met a more w).rest

    abbrev r : List ArcRef
    r = a ∷ more

    is : run_along old.arcs r ≡ x ∷ rest
    is = runs_are.chain_is g u old marks ending left m met a more w

    if_open : P a ≡ None → P (flipped (last_of a more)) ≡ None → Told r false
    if_open n e = record {
      joint = inl (subst (λ v. IsOpenRun Kept J old.arcs (cond b (reverse v) v) (directed b r)) (sym is) (runs_are.open_run g u old marks ending left m met a more w n e b));
      from = λ k h. directed_uses b k r h;
      turns = subst (λ v. ¬ (v ≡ reverse v)) (sym is)
          (trail_turns (x ∷ rest) (runs_are.line g u old marks ending left m met a more w).long (runs_are.line g u old marks ending left m met a more w).once);
      stops = λ z. (x, subst (λ v. Has x (cond b (reverse v) v)) (sym is) (on b), runs_are.end_stop g u old marks ending left m met a more w n e x (inl refl));
      loop = λ z. absurd (let f : false ≡ true = z in cc);
    }
      where
        b : Bool
        b = is_backwards_less (run_along old.arcs r)

        on : (b : Bool) → Has x (cond b (reverse (x ∷ rest)) (x ∷ rest))
        on false = inl refl
        on true = Has-reverse x (x ∷ rest) (inl refl)

    if_loop : P (flipped (last_of a more)) ≡ Some a → Told r true
    if_loop e = record {
      joint = inr both.0;
      from = both.1;
      turns = subst (λ v. ¬ (v ≡ reverse v)) (sym same) (trail_turns (closed (f ∷ s)) long (runs_are.loop_trail g u old marks ending left m met a more w e).once);
      stops = λ z. absurd (let h : true ≡ false = z in cc);
      loop = λ z. both.0;
    }
      where
        f : Pos
        f = (runs_are.turn g u old marks ending left m met a more w e).0

        s : List Pos
        s = (runs_are.turn g u old marks ending left m met a more w e).1

        same : from_least (run_along old.arcs r) ≡ closed (f ∷ s)
        same = ap from_least is ∙ runs_are.loop_is g u old marks ending left m met a more w e

        b : Bool
        b = is_backwards_less (from_least (run_along old.arcs r))

        long : 2 ≤ length (closed (f ∷ s))
        long = longer s
          where
            longer : (s : List Pos) → 2 ≤ length (closed (f ∷ s))
            longer [] = omega arith
            longer (y ∷ s) = omega arith

        both : (k : IsLoopRun position_cmp Kept J old.arcs (cond b (reverse (from_least (run_along old.arcs r))) (from_least (run_along old.arcs r))) (list_by old.arcs true (directed b r))) ×
            ((n : ℕ) → Uses n k.from → Uses n r)
        both =
            subst (λ v. (k : IsLoopRun position_cmp Kept J old.arcs (cond b (reverse v) v) (list_by old.arcs true (directed b r))) × ((n : ℕ) → Uses n k.from → Uses n r)) (sym same)
            (runs_are.loop_run g u old marks ending left m met a more w e b)

    paired_first : P (flipped (last_of a more)) ≡ Some a → (y : ArcRef) × (P a ≡ Some y)
    paired_first e =
        (flipped (last_of a more), (partners.paired g u old marks ending left m met (flipped (last_of a more)) a (w.stays (last_of a more).arc (uses_last a more)) e).1)

    if_walked : (round : Bool) → is_there (P a) ≡ round → Told r round
    if_walked false e = elim w.ends [
      | inl n ↦ if_open n.0 n.1
      | inr h ↦ (let t = paired_first h in absurd (let z : true ≡ false = ap is_there (sym t.1) ∙ e in cc))
    ]
    if_walked true e = elim w.ends [
      | inr h ↦ if_loop h
      | inl n ↦ absurd (let z : false ≡ true = ap is_there (sym n.0) ∙ e in cc)
    ]

  meant : (r : List ArcRef) → IsRun marks P r → Told r (goes_round P r)
  meant [] k = absurd k
  meant (a ∷ more) k = if_walked a more k (is_there (P a)) refl

  pairwise_with : {A B : Type 0} (R T : A → B → Type 0) (xs : List A) (ys : List B) → ((x : A) (y : B) → R x y → T x y) → Pairwise R xs ys → Pairwise T xs ys
  pairwise_with R T [] [] f p = tt
  pairwise_with R T [] (y ∷ ys) f p = absurd p
  pairwise_with R T (x ∷ xs) [] f p = absurd p
  pairwise_with R T (x ∷ xs) (y ∷ ys) f p = (f x y p.0, pairwise_with R T xs ys f p.1)

  -- a list that begins where no arc of it begins at a stop is free
  started_free : (c : List Pos) (l : List ArcRef) → IsChainOf position_cmp g c → StitchTo old.arcs l c → ((b : ArcRef) (v : Pos) → Has b l → BeginsAt old.arcs v b → ¬ J v) → ¬ (¬ Free J c)
  started_free [] l k s f n = k
  started_free (y ∷ q) [] k s f n = cc
  started_free (y ∷ q) (b ∷ l) k s f n = elim k.ends [
    | inl j ↦ f b y (inl refl) (s.0, s.2) j.0
    | inr j ↦ n j.1
  ]

  module _ (runs : List (List ArcRef)) (are : AreRuns marks P runs) (t : Arcs) (once : AreSortedOnce list_cmp (map chain_of (map piece runs)) t.arcs)
      (loops : AreLoopsOf (map piece runs) t.loops) where
    abbrev pub made : List (List ArcRef)
    made = put_all (map (located t.arcs) (map piece runs)) (map list runs) (replicate (length t.arcs) [])

    there : (r : List ArcRef) → Has r runs → Has (piece r).chain t.arcs
    there r h = once.there (piece r).chain (Has-map chain_of (map piece runs) (piece r) (Has-map piece runs r h))

    origin : (c : List Pos) → Has c t.arcs → (r : List ArcRef) × Has r runs × (c ≡ (piece r).chain)
    origin c h =
        let p = map_has chain_of (map piece runs) c (once.only c h) in
        let r = map_has piece runs p.0 p.1 in
        (r.0, r.1, p.2 ∙ ap chain_of r.2)

    abbrev Made : List Pos → List ArcRef → Type 0
    Made = placed.Made runs piece list t.arcs once.ascends there

    all_made : Pairwise Made t.arcs made
    all_made = placed.placed runs piece list t.arcs once.ascends there origin (λ i c e. get_has t.arcs i c e) (replicate (length t.arcs) []) (length_same (length t.arcs) [])

    abbrev number : List ArcRef → ℕ
    number r = number_in t.arcs (piece r)

    numbered : (r : List ArcRef) → Has r runs → slice_get t.arcs (number r) ≡ Some (piece r).chain
    numbered = placed.numbered runs piece list t.arcs once.ascends there

    -- runs that become one arc are one
    one_run : (r q : List ArcRef) → Has r runs → Has q runs → (piece r).chain ≡ (piece q).chain → r ≡ q
    one_run r q h i e =
        let a = meant r (are.each r h) in
        let b = meant q (are.each q i) in
        let moved : (j : Joint (piece r).chain (list q)) × ((k : ℕ) →
        Uses k (source position_cmp position_total position_same position_dec u left.sound old.arcs left.table.arcs g left.part (piece r).chain (list q) j) → Uses k q) =
        subst (λ c. (j : Joint c (list q)) × ((k : ℕ) →
        Uses k (source position_cmp position_total position_same position_dec u left.sound old.arcs left.table.arcs g left.part c (list q) j) → Uses k q)) (sym e) (b.joint, b.from) in
        elim (common r q) [
          | inl s ↦ are.apart s.0 r q h i s.1 s.2
          | inr n ↦
              absurd (joined_apart position_cmp position_total position_same position_dec u left.sound old.arcs left.table.arcs g left.part (piece r).chain (list r) (list q)
              a.joint moved.0 (λ k v w. n k (a.from k v) (moved.1 k w)))
        ]

    list_made : (r : List ArcRef) → Has r runs → pieces_at made (number r) ≡ list r
    list_made r h =
        let (q, i, c, l) = pairwise_at Made t.arcs made all_made (number r) (piece r).chain (numbered r h) in
        l ∙ ap list (sym (one_run r q h i c))

    joined : AreJoined position_cmp g u old.arcs t.arcs made
    joined = record {
      sorted = once.ascends;
      forward = λ c h.
          let (r, i, e) = origin c h in
          let x = chain_by old.arcs (goes_round P r) r in
          subst (λ w. list_cmp w (reverse w) ≡ Less) (sym e) (is_less (list_cmp (least_direction x) (reverse (least_direction x))) (least_first x (meant r (are.each r i)).turns));
      each = pairwise_with Made Joint t.arcs made (λ c l d.
          let (r, i, e, f) = d in subst (λ w. Joint w l) (sym e) (subst (Joint (piece r).chain) (sym f) (meant r (are.each r i)).joint)) all_made;
      all = λ k h.
          let (r, i, w) = are.all k (partners.kept_marked g u old marks ending left m met k h) in
          (number r, subst (Uses k) (sym (list_made r i)) (in_list k r w));
    }
      where
        in_list : (k : ℕ) (r : List ArcRef) → Uses k r → Uses k (list r)
        in_list k r h = go (goes_round P r)
          where
            go : (round : Bool) → Uses k (list_by old.arcs round (directed (is_backwards_less (chain_by old.arcs (goes_round P r) r)) r))
            go false = uses_directed (is_backwards_less (chain_by old.arcs (goes_round P r) r)) k r h
            go true =
                let d = directed (is_backwards_less (chain_by old.arcs (goes_round P r) r)) r in
                subst (Uses k) (sym (turned_at old.arcs d))
                (uses_started (least_index old.arcs d) k d (uses_directed (is_backwards_less (chain_by old.arcs (goes_round P r) r)) k r h))

    refined : IsRefinementOf position_cmp g u t.arcs old.arcs made
    refined = (joined_arcs_are_the_arcs position_cmp g u old.arcs (partners.is_part g u old marks ending left m met) t.arcs made).0 joined

    loop_free : (r : List ArcRef) → Has r runs → goes_round P r ≡ true → Free J (piece r).chain
    loop_free r h e =
        elim (subst (ArePiecesOfArc position_cmp J (JunctionOf u) old.arcs (piece r).chain) (list_made r h)
        (pairwise_at (ArePiecesOfArc position_cmp J (JunctionOf u) old.arcs) t.arcs made refined.cut (number r) (piece r).chain (numbered r h))) [
          | inr k ↦ k.2
          | inl (n, s) ↦
              absurd (started_free (piece r).chain (list r) (refined.old.arcs_only (piece r).chain (there r h)).chain s
              (λ b v i begins. no_stop b v i begins) n)
        ]
      where
        no_stop : (b : ArcRef) (v : Pos) → Has b (list r) → BeginsAt old.arcs v b → ¬ J v
        no_stop b v i begins =
            let k = (meant r (are.each r h)).loop e in
            k.meets b v (has_started (least_index old.arcs k.from) b k.from (subst (Has b) (k.list ∙ turned_at old.arcs k.from) i)) begins

    good : (p : Piece) → Has p (map piece runs) → Tells p.free (Free J p.chain)
    good p h =
        let (r, i, e) = map_has piece runs p h in
        subst (λ w. Tells w.free (Free J w.chain)) (sym e) (by_round r i (goes_round P r) refl)
      where
        by_round : (r : List ArcRef) → Has r runs → (b : Bool) → goes_round P r ≡ b → Tells (goes_round P r) (Free J (piece r).chain)
        by_round r i true e = record {
          yes = λ z. loop_free r i e;
          no = λ z. absurd (let f : true ≡ false = sym e ∙ z in cc);
        }
        by_round r i false e = record {
          yes = λ z. absurd (let f : false ≡ true = sym e ∙ z in cc);
          no = λ z free. let (v, on, j) = (meant r (are.each r i)).stops e in free v on j;
        }

    pub heals : IsHealedOf g u old (record { arcs = t; pieces = made })
    heals = record {
      table = record {
        arcs = refined.old;
        free = all_marked J (map piece runs) t good loops once.only;
        once = each_segment_once position_cmp g (record { total = position_total; same = position_same }) sg t.arcs refined.old;
      };
      refined = refined;
    }

-- in the form of the code
module _ (old : Arcs) (marks : List Bool) (ending : List Pos) (numbers slice : List ℕ) (chosen : numbers ≡ kept_numbers 0 marks) (borrowed : slice ≡ numbers)
    (m : PseudoNodes) (met : Distinct slice → (v : Pos) (a : ArcRef) → Begins old.arcs v slice a → IsVerdict (Has v ending) (Begins old.arcs v slice) (partner_in m) a)
    (runs : List (List ArcRef)) (are : ArePaired marks (partner_in m) → AreRuns marks (partner_in m) runs)
    (ps : List Piece) (ls : List (List ArcRef)) (pieces : ps ≡ map (piece_of_run old.arcs (partner_in m)) runs) (lists : ls ≡ map (list_of_run old.arcs (partner_in m)) runs)
    (t : Arcs) (once : AreSortedOnce list_cmp (map chain_of ps) t.arcs) (loops : AreLoopsOf ps t.loops)
    (refs those : List ArcRef) (numbered : refs ≡ map (located t.arcs) ps) (borrowed_refs : those ≡ refs) (n : ℕ) (count : n ≡ length t.arcs)
    (made : List (List ArcRef)) (put : made ≡ put_all those ls (replicate n [])) (result : HealedParts) (is : result ≡ record { arcs = t; pieces = made }) where
  heal_known : (g u : Geometry Pos) → IsLeftBy g u old marks ending → IsHealedOf g u old result
  heal_known g u left =
      let met' : AreAnswered old marks ending m =
      subst (λ w. Distinct w → (v : Pos) (a : ArcRef) → Begins old.arcs v w a → IsVerdict (Has v ending) (Begins old.arcs v w) (partner_in m) a) (borrowed ∙ chosen) met (numbers_once 0 marks) in
      let same : made ≡ put_all (map (located t.arcs) (map (piece_of_run old.arcs (partner_in m)) runs)) (map (list_of_run old.arcs (partner_in m)) runs) (replicate (length t.arcs) []) =
      put ∙ (λ i. put_all ((borrowed_refs ∙ numbered ∙ ap (map (located t.arcs)) pieces) i) (lists i) (replicate (count i) [])) in
      subst (IsHealedOf g u old) (sym (is ∙ (λ i. record { arcs = t; pieces = same i })))
      (heals g u old marks ending left m met' runs (are (partners.paired g u old marks ending left m met')) t
      (subst (λ w. AreSortedOnce list_cmp (map chain_of w) t.arcs) pieces once) (subst (λ w. AreLoopsOf w t.loops) pieces loops))

  heal_count : length result.pieces ≡ length result.arcs.arcs
  heal_count =
      subst (λ r. length r.pieces ≡ length r.arcs.arcs) (sym is) (ap length put ∙ length_put those ls (replicate n []) ∙ length_same n [] ∙ count)

  -- both that heal promises
  pub heal_is : ((g u : Geometry Pos) → IsLeftBy g u old marks ending → IsHealedOf g u old result) × (length result.pieces ≡ length result.arcs.arcs)
  heal_is = (heal_known, heal_count)

-- nothing is left to put
pub put_none : (refs : List ArcRef) (placed : List (List ArcRef)) → put_all refs [] placed ≡ placed
put_none [] placed = refl
put_none (a ∷ refs) placed = refl
