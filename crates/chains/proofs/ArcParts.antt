-- The parts of a list that is cut at its inner stops.
use Rattle.std.proofs.Common.{◌≡◌, ℕ, zero, suc, ◌+◌, ◌<◌, ◌≤◌, Bool, true, false, cond, not, ◌&&◌, List, [], ◌∷◌, ◌++◌, map, reverse, length, drop, slice_get, slice_range, Some, inl, inr, refl, sym, ap, ◌∙◌, subst, arith, append_assoc}
use Rattle.std.proofs.lemmas.List.{length-reverse, reverse-reverse}
use Rattle.std.specs.Cmp.Lexicographic.{lists_total}
use Rattle.std.specs.Ordering.{is_lt, ordering_reverse}
use Rattle.std.specs.declared.cmp.Ordering.{Ordering}
use Rattle.std.specs.declared.cmp.Ordering.TheVariants.{Less, Equal, Greater}
use Rattle.theory.specs.Lists.{Begins, Has, Passes, front_of}
use Rattle.theory.specs.Refinement.{unclosed}
use Rattle.theory.specs.Stitching.{Stitched}
use Rattle.theory.proofs.Lists.{Has-append, append_nil, last-snoc}
use Rattle.theory.proofs.ListsOfLists.{map_has}
use Rattle.grid.specs.declared.pos.Pos.{Pos}
use Rattle.lines.specs.Positions.{position_total}
use Rattle.lines.specs.Turned.{list_cmp}
use Rattle.lines.proofs.Dropping.{drop_next}
use Rattle.lines.proofs.Positions.{true_false}
use Rattle.chains.specs.ArcPieces.{meets_stop, turned_loop, pieces_at, read_from, JoinTo, EndsAtStop, MeetAtStops, AreCutAt}
use Rattle.chains.specs.Pieces.{cut_inside, cut_inside_from, goes_on, open_pieces}
use Rattle.arcs.specs.Pieces.{is_backwards_less, least_direction, piece_along, used}
use Rattle.arcs.specs.declared.piece.Piece.{Piece}
use Rattle.chains.proofs.LoopStops.{turned_least, turned_long}
use Rattle.chains.proofs.Oriented.{used_along, used_parts}
use Rattle.chains.proofs.Sharing.{none_met}
use Rattle.chains.proofs.Slices.{range_more, range_one}

-- whether a list goes on behind a place
pub goes : (l : List Pos) (i : ℕ) → i < length l → goes_on (drop i l) ≡ true
goes [] i h = absurd (omega arith)
goes (x ∷ l) zero h = refl
goes (x ∷ l) (suc i) h = goes l i (omega (arith, h))

pub goes_not : (l : List Pos) (i : ℕ) → length l ≤ i → goes_on (drop i l) ≡ false
goes_not [] zero h = refl
goes_not [] (suc i) h = refl
goes_not (x ∷ l) zero h = absurd (omega arith)
goes_not (x ∷ l) (suc i) h = goes_not l i (omega (arith, h))

stands : (l : List Pos) (i : ℕ) → i < length l → (p : Pos) × (slice_get l i ≡ Some p)
stands [] i h = absurd (omega arith)
stands (x ∷ l) zero h = (x, refl)
stands (x ∷ l) (suc i) h = stands l i (omega (arith, h))

-- a step onto a stop, and one onto another vertex or the last
pub part_stop : (stop : Pos → Bool) (l : List Pos) (b i b' : ℕ) (p : Pos) (ps : List Piece) (q : Piece) (ps' all : List Piece) → b < i → slice_get l i ≡ Some p →
    goes_on (drop (i + 1) l) ≡ true → stop p ≡ true →
    q ≡ piece_along false (slice_range l b (i + 1)) → b' ≡ i → ps' ≡ ps ++ (q ∷ []) →
    ps ++ map (piece_along false) (cut_inside_from stop (slice_range l b i) (drop i l)) ≡ all →
    ps' ++ map (piece_along false) (cut_inside_from stop (slice_range l b' (i + 1)) (drop (i + 1) l)) ≡ all
part_stop stop l b i b' p ps q ps' all h e n s k f g before =
    let rest = cut_inside_from stop (p ∷ []) (drop (i + 1) l) in
    let more : slice_range l b (i + 1) ≡ slice_range l b i ++ (p ∷ []) = range_more l b i p (omega arith) e in
    (λ j. g j ++ map (piece_along false) (cut_inside_from stop (slice_range l (f j) (i + 1)) (drop (i + 1) l)))
    ∙ append_assoc ps (q ∷ []) (map (piece_along false) (cut_inside_from stop (slice_range l i (i + 1)) (drop (i + 1) l)))
    ∙ ap (λ w. ps ++ (q ∷ map (piece_along false) (cut_inside_from stop w (drop (i + 1) l)))) (range_one l i p e)
    ∙ ap (λ w. ps ++ (w ∷ map (piece_along false) rest)) (k ∙ ap (piece_along false) more)
    ∙ ap (λ c. ps ++ map (piece_along false) (cond c ((slice_range l b i ++ (p ∷ [])) ∷ rest) (cut_inside_from stop (slice_range l b i ++ (p ∷ [])) (drop (i + 1) l))))
    (sym ((λ j. n j && s j)))
    ∙ ap (λ w. ps ++ map (piece_along false) (cut_inside_from stop (slice_range l b i) w)) (sym (drop_next l i p e))
    ∙ before

pub part_pass : (stop : Pos → Bool) (l : List Pos) (b i b' : ℕ) (p : Pos) (ps ps' all : List Piece) → b < i → slice_get l i ≡ Some p →
    (goes_on (drop (i + 1) l) && stop p) ≡ false → b' ≡ b → ps' ≡ ps →
    ps ++ map (piece_along false) (cut_inside_from stop (slice_range l b i) (drop i l)) ≡ all →
    ps' ++ map (piece_along false) (cut_inside_from stop (slice_range l b' (i + 1)) (drop (i + 1) l)) ≡ all
part_pass stop l b i b' p ps ps' all h e n f g before =
    let rest = cut_inside_from stop (p ∷ []) (drop (i + 1) l) in
    (λ j. g j ++ map (piece_along false) (cut_inside_from stop (slice_range l (f j) (i + 1)) (drop (i + 1) l)))
    ∙ ap (λ w. ps ++ map (piece_along false) (cut_inside_from stop w (drop (i + 1) l))) (range_more l b i p (omega arith) e)
    ∙ ap (λ c. ps ++ map (piece_along false) (cond c ((slice_range l b i ++ (p ∷ [])) ∷ rest) (cut_inside_from stop (slice_range l b i ++ (p ∷ [])) (drop (i + 1) l)))) (sym n)
    ∙ ap (λ w. ps ++ map (piece_along false) (cut_inside_from stop (slice_range l b i) w)) (sym (drop_next l i p e))
    ∙ before

-- the last place
pub part_last : (stop : Pos → Bool) (l : List Pos) (b i b' : ℕ) (ps ps' all : List Piece) → b < i → i < length l →
    goes_on (drop (i + 1) l) ≡ false → b' ≡ b → ps' ≡ ps →
    ps ++ map (piece_along false) (cut_inside_from stop (slice_range l b i) (drop i l)) ≡ all →
    ps' ++ map (piece_along false) (cut_inside_from stop (slice_range l b' (i + 1)) (drop (i + 1) l)) ≡ all
part_last stop l b i b' ps ps' all h w n f g before =
    let t = stands l i w in
    part_pass stop l b i b' t.0 ps ps' all h t.1 (ap (λ c. c && stop t.0) n) f g before

not_both : (r s : Ordering) → s ≡ ordering_reverse r → is_lt r ≡ true → is_lt s ≡ false
not_both Less s f e = ap is_lt f
not_both Equal s f e = absurd cc
not_both Greater s f e = absurd cc

-- the list of a piece does not come after its reverse
pub not_backwards : (c : List Pos) → is_backwards_less (least_direction c) ≡ false
not_backwards c = go (is_backwards_less c) refl
  where
    go : (b : Bool) → is_backwards_less c ≡ b → is_backwards_less (cond b (reverse c) c) ≡ false
    go true e =
        ap (λ w. is_lt (list_cmp w (reverse c))) (reverse-reverse c)
        ∙ not_both (list_cmp (reverse c) c) (list_cmp c (reverse c)) ((lists_total position_total).antisymm c (reverse c)) e
    go false e = e

-- an inner place of a list stands before the last one
passes_inside : (a v b x p : Pos) (m : List Pos) → Passes a v b (x ∷ (m ++ (p ∷ []))) → Has v m
passes_inside a v b x p [] (inl h) = absurd h.1.1
passes_inside a v b x p [] (inr (inl h)) = absurd h.1
passes_inside a v b x p [] (inr (inr h)) = absurd h
passes_inside a v b x p (y ∷ m) (inl h) = inl h.1.0
passes_inside a v b x p (y ∷ m) (inr h) = inr (passes_inside a v b y p m h)

-- an inner place of a list stands in front of its last one
passes_front : (a v b x : Pos) (r : List Pos) → Passes a v b (x ∷ r) → Has v (front_of x r)
passes_front a v b x [] (inl h) = absurd h.1
passes_front a v b x [] (inr h) = absurd h
passes_front a v b x (y ∷ []) (inl h) = absurd h.1.1
passes_front a v b x (y ∷ []) (inr (inl h)) = absurd h.1
passes_front a v b x (y ∷ []) (inr (inr h)) = absurd h
passes_front a v b x (y ∷ (z ∷ r)) (inl h) = inr (inl h.1.0)
passes_front a v b x (y ∷ (z ∷ r)) (inr h) = inr (passes_front a v b y (z ∷ r) h)

module _ (stop : Pos → Bool) where
  meet_more : (c : List Pos) (cs : List (List Pos)) → EndsAtStop stop c → MeetAtStops stop cs → MeetAtStops stop (c ∷ cs)
  meet_more c [] e m = tt
  meet_more c (d ∷ cs) e m = (e, m)

  both_true : (b c : Bool) → (b && c) ≡ true → c ≡ true
  both_true true c e = e
  both_true false c e = absurd cc

  parts_joined : (x : Pos) (m rest : List Pos) → Stitched x (cut_inside_from stop (x ∷ m) rest) (m ++ rest)
  parts_joined x m [] = (m, [], refl, refl, refl)
  parts_joined x m (p ∷ rest) = go (goes_on rest && stop p) (parts_joined p [] rest) (parts_joined x (m ++ (p ∷ [])) rest)
    where
      go : (b : Bool) → Stitched p (cut_inside_from stop (p ∷ []) rest) rest → Stitched x (cut_inside_from stop (x ∷ (m ++ (p ∷ []))) rest) ((m ++ (p ∷ [])) ++ rest) →
          Stitched x (cond b ((x ∷ (m ++ (p ∷ []))) ∷ cut_inside_from stop (p ∷ []) rest) (cut_inside_from stop (x ∷ (m ++ (p ∷ []))) rest)) (m ++ (p ∷ rest))
      go true f g = (
        m ++ (p ∷ []),
        rest,
        refl,
        sym (append_assoc m (p ∷ []) rest),
        subst (λ u. Stitched u (cut_inside_from stop (p ∷ []) rest) rest) (sym (last-snoc x p m)) f,
      )
      go false f g = subst (λ l. Stitched x (cut_inside_from stop (x ∷ (m ++ (p ∷ []))) rest) l) (append_assoc m (p ∷ []) rest) g

  parts_meet : (x : Pos) (m rest : List Pos) → MeetAtStops stop (cut_inside_from stop (x ∷ m) rest)
  parts_meet x m [] = tt
  parts_meet x m (p ∷ rest) = go (goes_on rest && stop p) refl (parts_meet p [] rest) (parts_meet x (m ++ (p ∷ [])) rest)
    where
      go : (b : Bool) → (goes_on rest && stop p) ≡ b → MeetAtStops stop (cut_inside_from stop (p ∷ []) rest) → MeetAtStops stop (cut_inside_from stop (x ∷ (m ++ (p ∷ []))) rest) →
          MeetAtStops stop (cond b ((x ∷ (m ++ (p ∷ []))) ∷ cut_inside_from stop (p ∷ []) rest) (cut_inside_from stop (x ∷ (m ++ (p ∷ []))) rest))
      go true e f g =
          meet_more (x ∷ (m ++ (p ∷ []))) (cut_inside_from stop (p ∷ []) rest)
          (subst (λ w. stop w ≡ true) (sym (last-snoc x p m)) (both_true (goes_on rest) (stop p) e)) f
      go false e f g = g

  parts_inner : (x : Pos) (m rest : List Pos) → ((v : Pos) → Has v m → goes_on rest ≡ true → stop v ≡ false) → ((a v b : Pos) → Passes a v b (x ∷ m) → stop v ≡ false) →
      (c : List Pos) → Has c (cut_inside_from stop (x ∷ m) rest) → (a v b : Pos) → Passes a v b c → stop v ≡ false
  parts_inner x m [] h k c (inl e) a v b q = k a v b (subst (Passes a v b) e q)
  parts_inner x m [] h k c (inr z) a v b q = absurd z
  parts_inner x m (p ∷ rest) h k c t a v b q =
      go (goes_on rest && stop p) refl
      (λ n. parts_inner p [] rest (λ u i. absurd i) alone c n a v b q)
      (λ f n. parts_inner x (m ++ (p ∷ [])) rest (more f) longer c n a v b q) t
    where
      alone : (a v b : Pos) → Passes a v b (p ∷ []) → stop v ≡ false
      alone a v b (inl z) = absurd z.1
      alone a v b (inr z) = absurd z

      longer : (a v b : Pos) → Passes a v b (x ∷ (m ++ (p ∷ []))) → stop v ≡ false
      longer a v b z = h v (passes_inside a v b x p m z) refl

      more : (goes_on rest && stop p) ≡ false → (v : Pos) → Has v (m ++ (p ∷ [])) → goes_on rest ≡ true → stop v ≡ false
      more f v i g = elim (Has-append v m (p ∷ []) i) [
        | inl j ↦ h v j refl
        | inr j ↦ elim j [ inl e ↦ ap stop e ∙ (λ w. (sym g w) && stop p) ∙ f | inr z ↦ absurd z ]
      ]

      go : (w : Bool) → (goes_on rest && stop p) ≡ w → (Has c (cut_inside_from stop (p ∷ []) rest) → stop v ≡ false) →
          ((goes_on rest && stop p) ≡ false → Has c (cut_inside_from stop (x ∷ (m ++ (p ∷ []))) rest) → stop v ≡ false) →
          Has c (cond w ((x ∷ (m ++ (p ∷ []))) ∷ cut_inside_from stop (p ∷ []) rest) (cut_inside_from stop (x ∷ (m ++ (p ∷ []))) rest)) → stop v ≡ false
      go true e f g (inl z) = longer a v b (subst (Passes a v b) z q)
      go true e f g (inr z) = f z
      go false e f g z = g e z

  -- where a part ends before the last position, the next one has two positions or more
  parts_long : (x : Pos) (m rest : List Pos) → 2 ≤ length (x ∷ (m ++ rest)) → (c : List Pos) → Has c (cut_inside_from stop (x ∷ m) rest) → 2 ≤ length c
  parts_long x m [] k c (inl e) = subst (λ w. 2 ≤ length w) (ap (λ w. x ∷ w) (append_nil m) ∙ sym e) k
  parts_long x m [] k c (inr z) = absurd z
  parts_long x m (p ∷ rest) k c t =
      go (goes_on rest && stop p) refl
      (λ h. parts_long p [] rest h c)
      (parts_long x (m ++ (p ∷ [])) rest (subst (λ w. 2 ≤ length (x ∷ w)) (sym (append_assoc m (p ∷ []) rest)) k) c) t
    where
      ended : (m : List Pos) → 2 ≤ length (x ∷ (m ++ (p ∷ [])))
      ended [] = omega arith
      ended (y ∷ m) = let h = ended m in omega arith

      goes_far : (l : List Pos) (b : Bool) → (goes_on l && b) ≡ true → 2 ≤ length (p ∷ l)
      goes_far [] b e = absurd cc
      goes_far (y ∷ l) b e = omega arith

      go : (w : Bool) → (goes_on rest && stop p) ≡ w → (2 ≤ length (p ∷ rest) → Has c (cut_inside_from stop (p ∷ []) rest) → 2 ≤ length c) →
          (Has c (cut_inside_from stop (x ∷ (m ++ (p ∷ []))) rest) → 2 ≤ length c) →
          Has c (cond w ((x ∷ (m ++ (p ∷ []))) ∷ cut_inside_from stop (p ∷ []) rest) (cut_inside_from stop (x ∷ (m ++ (p ∷ []))) rest)) → 2 ≤ length c
      go true e f g (inl z) = subst (λ w. 2 ≤ length w) (sym z) (ended m)
      go true e f g (inr z) = f (goes_far rest (stop p) e) z
      go false e f g z = g z

  list_long : (l : List Pos) → 2 ≤ length l → (c : List Pos) → Has c (cut_inside stop l) → 2 ≤ length c
  list_long [] k c h = absurd (omega (arith, k))
  list_long (x ∷ r) k c h = parts_long x [] r k c h

  list_joined : (l : List Pos) → JoinTo l (cut_inside stop l)
  list_joined [] = refl
  list_joined (x ∷ r) = parts_joined x [] r

  list_meet : (l : List Pos) → MeetAtStops stop (cut_inside stop l)
  list_meet [] = tt
  list_meet (x ∷ r) = parts_meet x [] r

  list_inner : (l c : List Pos) → Has c (cut_inside stop l) → (a v b : Pos) → Passes a v b c → stop v ≡ false
  list_inner [] c (inl e) a v b q = absurd (subst (Passes a v b) e q)
  list_inner [] c (inr z) a v b q = absurd z
  list_inner (x ∷ r) c h a v b q = parts_inner x [] r (λ u i. absurd i) alone c h a v b q
    where
      alone : (a v b : Pos) → Passes a v b (x ∷ []) → stop v ≡ false
      alone a v b (inl z) = absurd z.1
      alone a v b (inr z) = absurd z

  -- what is said of the parts is said of their pieces
  of_parts : (free : Bool) (cs : List (List Pos)) → ((c : List Pos) → Has c cs → (a v b : Pos) → Passes a v b c → stop v ≡ false) →
      (p : Piece) (a v b : Pos) → Has p (map (piece_along free) cs) → Passes a v b (used p) → stop v ≡ false
  of_parts free cs h p a v b k q =
      let t = map_has (piece_along free) cs p k in
      h t.0 t.1 a v b (subst (Passes a v b) (ap used t.2 ∙ used_along free t.0) q)

  least_parts : (free : Bool) (cs : List (List Pos)) (p : Piece) → Has p (map (piece_along free) cs) → is_backwards_less p.chain ≡ false
  least_parts free cs p k =
      let t = map_has (piece_along free) cs p k in
      ap (λ (q : Piece). is_backwards_less q.chain) t.2 ∙ not_backwards t.0

  long_parts : (free : Bool) (cs : List (List Pos)) → ((c : List Pos) → Has c cs → 2 ≤ length c) → (p : Piece) → Has p (map (piece_along free) cs) → 2 ≤ length p.chain
  long_parts free cs h p k =
      let t = map_has (piece_along free) cs p k in
      subst (λ (q : Piece). 2 ≤ length q.chain) (sym t.2) (go t.0 (is_backwards_less t.0) (h t.0 t.1))
    where
      go : (c : List Pos) (b : Bool) → 2 ≤ length c → 2 ≤ length (cond b (reverse c) c)
      go c true n = omega (arith, n, length-reverse c)
      go c false n = n

  free_parts : (free : Bool) (cs : List (List Pos)) (p : Piece) → Has p (map (piece_along free) cs) → p.free ≡ free
  free_parts free cs p k = let t = map_has (piece_along free) cs p k in ap (λ (q : Piece). q.free) t.2

  -- a free loop on which no stop lies
  whole_joined : (c : List Pos) → JoinTo c (c ∷ [])
  whole_joined [] = refl
  whole_joined (x ∷ r) = (r, [], refl, sym (append_nil r), refl)

  whole_inner : (c : List Pos) → meets_stop stop c ≡ false → (d : List Pos) → Has d (c ∷ []) → (a v b : Pos) → Passes a v b d → stop v ≡ false
  whole_inner c e d (inr z) a v b q = absurd z
  whole_inner [] e d (inl f) a v b q = absurd (subst (Passes a v b) f q)
  whole_inner (x ∷ r) e d (inl f) a v b q = none_met stop (front_of x r) e v (passes_front a v b x r (subst (Passes a v b) f q))

-- the pieces are what they are said to be
pub are_cut : (stop : Pos → Bool) (free : Bool) (c : List Pos) → AreCutAt stop free c (pieces_at stop free c)
are_cut stop false c = record {
  joined = subst (JoinTo c) (sym (used_parts false (cut_inside stop c))) (list_joined stop c);
  begins = λ e. absurd cc;
  meet = subst (MeetAtStops stop) (sym (used_parts false (cut_inside stop c))) (list_meet stop c);
  inner = of_parts stop false (cut_inside stop c) (list_inner stop c);
  long = λ k. long_parts stop false (cut_inside stop c) (list_long stop c k);
  least = least_parts stop false (cut_inside stop c);
  marked = free_parts stop false (cut_inside stop c);
}
are_cut stop true c = go (meets_stop stop c) refl
  where
    t : List Pos
    t = turned_loop stop c

    go : (b : Bool) → meets_stop stop c ≡ b → AreCutAt stop true c (map (piece_along (not b)) (cond b (cut_inside stop t) (c ∷ [])))
    go true e =
        let r : read_from stop true c ≡ t = ap (λ b. cond b t c) e in
        record {
          joined = subst (λ w. JoinTo w (map used (open_pieces stop t))) (sym r) (subst (JoinTo t) (sym (used_parts false (cut_inside stop t))) (list_joined stop t));
          begins = λ f g v h. turned_least stop (unclosed c) e v (subst (Begins v) r h);
          meet = subst (MeetAtStops stop) (sym (used_parts false (cut_inside stop t))) (list_meet stop t);
          inner = of_parts stop false (cut_inside stop t) (list_inner stop t);
          long = λ k. long_parts stop false (cut_inside stop t) (list_long stop t (turned_long stop (unclosed c) e));
          least = least_parts stop false (cut_inside stop t);
          marked = λ p h. free_parts stop false (cut_inside stop t) p h ∙ ap not (sym e);
        }
    go false e =
        let r : read_from stop true c ≡ c = ap (λ b. cond b t c) e in
        record {
          joined = subst (λ w. JoinTo w (map used (piece_along true c ∷ []))) (sym r) (subst (JoinTo c) (sym (used_parts true (c ∷ []))) (whole_joined stop c));
          begins = λ f g. absurd (true_false (meets_stop stop c) g e);
          meet = tt;
          inner = of_parts stop true (c ∷ []) (whole_inner stop c e);
          long = λ k. long_parts stop true (c ∷ []) (λ d h. elim h [ inl z ↦ subst (λ w. 2 ≤ length w) (sym z) k | inr z ↦ absurd z ]);
          least = least_parts stop true (c ∷ []);
          marked = λ p h. free_parts stop true (c ∷ []) p h ∙ ap not (sym e);
        }
