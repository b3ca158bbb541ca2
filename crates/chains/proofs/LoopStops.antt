-- Where a ring's cut begins: at its least stop, if one lies on it.
use Rattle.std.proofs.Common.{◌≡◌, ℕ, ◌<◌, ◌≤◌, Bool, true, false, cond, not, ◌&&◌, ◌||◌, List, [], ◌∷◌, ◌++◌, map, length, take, drop, slice_get, Some, None, inl, inr, refl, sym, ap, ◌∙◌, subst, arith}
use Rattle.std.proofs.Math.Seq.{drop-append_seam, take-append_seam}
use Rattle.std.specs.Cmp.{tied_itself}
use Rattle.std.specs.List.{list_any}
use Rattle.std.specs.Ordering.{is_gt, ordering_then}
use Rattle.theory.specs.Geometry.{AtMost}
use Rattle.theory.specs.Lists.{Begins, Has}
use Rattle.theory.proofs.Lists.{Has-append_right, Has-split}
use Rattle.grid.specs.declared.pos.Pos.{Pos}
use Rattle.lines.specs.Positions.{position_total}
use Rattle.lines.specs.Turned.{position_cmp}
use Rattle.lines.proofs.Positions.{true_false}
use Rattle.arcs.specs.Among.{among}
use Rattle.chains.specs.ArcPieces.{least_stop, IsLeastStop}
use Rattle.chains.specs.Pieces.{begins_free, started_ring, cut_inside, cut_inside_from, goes_on, open_pieces, opened_at, parts_round, ring_pieces}
use Rattle.arcs.specs.Pieces.{piece_along}
use Rattle.chains.specs.Starts.{start_of, start_cmp, start_index}
use Rattle.chains.proofs.Openings.{LeastAt, Opening, starts_list, head_or, index_least, opening, start_there}
use Rattle.chains.proofs.Sharing.{none_any}
use Rattle.chains.proofs.Turned.{then_head, same_kind, no_other}

-- what stands on the list is found
pub any_met : (stop : Pos → Bool) (l : List Pos) (v : Pos) → Has v l → stop v ≡ true → list_any stop l ≡ true
any_met stop [] v h e = absurd h
any_met stop (x ∷ l) v (inl p) e = rw (subst (λ w. stop w ≡ true) p e) refl
any_met stop (x ∷ l) v (inr h) e = go (stop x) (any_met stop l v h e)
  where
    go : (b : Bool) → list_any stop l ≡ true → (b || list_any stop l) ≡ true
    go true f = refl
    go false f = f

-- the place where a ring's cut begins
pub record StartsAt (stop : Pos → Bool) (r : List Pos) (i : ℕ) : Type 0 where
  pub vertex : Pos
  pub before : List Pos
  pub behind : List Pos
  pub parted : r ≡ before ++ (vertex ∷ behind)
  pub place : i ≡ length before
  -- it is a stop exactly where one lies on the ring
  pub meant : stop vertex ≡ list_any stop r
  -- and no stop is less
  pub least : (u : Pos) → Has u r → stop u ≡ true → AtMost position_cmp vertex u
  -- where none lies on the ring, no vertex is less
  pub alone : stop vertex ≡ false → (u : Pos) → Has u r → AtMost position_cmp vertex u

pub starts_at : (stop : Pos → Bool) (x : Pos) (r : List Pos) → StartsAt stop (x ∷ r) (start_index stop (x ∷ r))
starts_at stop x [] = record {
  vertex = x;
  before = [];
  behind = [];
  parted = refl;
  place = refl;
  meant = go (stop x);
  least = λ u h e. itself u h;
  alone = λ e. itself;
}
  where
    itself : (u : Pos) → Has u (x ∷ []) → AtMost position_cmp x u
    itself u (inl p) = subst (AtMost position_cmp x) (sym p) (ap is_gt (tied_itself position_total x))
    itself u (inr z) = absurd z

    go : (b : Bool) → b ≡ (b || false)
    go true = refl
    go false = refl
starts_at stop x (y ∷ l) = record {
  vertex = f;
  before = o.left;
  behind = o.right;
  parted = o.parted;
  place = k.place ∙ sym o.place;
  meant = meant (stop f) refl;
  least = λ u h e. least u h e (stop f) refl;
  alone = λ e u h. most u h (e ∙ sym (none e u h));
}
  where
    r : List Pos
    r = x ∷ (y ∷ l)

    k : LeastAt (starts_list stop x r) (start_index stop r)
    k = index_least stop x y l

    o : Opening stop x r k.before k.here
    o = opening stop x x (y ∷ l) k.before k.here k.behind k.parted

    f : Pos
    f = o.vertex

    next : Pos
    next = head_or x o.right

    below : (u z : Pos) → Has (start_of stop u z) (starts_list stop x r) → is_gt (start_cmp (start_of stop f next) (start_of stop u z)) ≡ false
    below u z h = subst (λ w. is_gt (start_cmp w (start_of stop u z)) ≡ false) o.is (k.least (start_of stop u z) h)

    there : (u : Pos) → Has u r → (z : Pos) × Has (start_of stop u z) (starts_list stop x r)
    there u h =
        let p = Has-split u r h in
        (head_or x p.1, subst (λ w. Has (start_of stop u (head_or x p.1)) (starts_list stop x w)) (sym p.2) (start_there stop x p.0 u p.1))

    is_there : Has f r
    is_there = subst (λ w. Has f w) (sym o.parted) (Has-append_right f o.left (f ∷ o.right) (inl refl))

    none : stop f ≡ false → (u : Pos) → Has u r → stop u ≡ false
    none e u h =
        let t = there u h in
        no_other (stop f) (stop u) (ordering_then (position_cmp f u) (position_cmp next t.0)) e (below u t.0 t.1)

    meant : (b : Bool) → stop f ≡ b → stop f ≡ list_any stop r
    meant true e = e ∙ sym (any_met stop r f is_there e)
    meant false e = e ∙ sym (none_any stop r (none e))

    most : (u : Pos) → Has u r → stop f ≡ stop u → AtMost position_cmp f u
    most u h e =
        let t = there u h in
        then_head (position_cmp f u) (position_cmp next t.0)
        (same_kind (stop f) (stop u) (ordering_then (position_cmp f u) (position_cmp next t.0)) e (below u t.0 t.1))

    least : (u : Pos) → Has u r → stop u ≡ true → (b : Bool) → stop f ≡ b → AtMost position_cmp f u
    least u h e true g = most u h (g ∙ sym e)
    least u h e false g = absurd (true_false (stop u) e (none g u h))

get_seam : {A : Type 0} (a : List A) (v : A) (b : List A) → slice_get (a ++ (v ∷ b)) (length a) ≡ Some v
get_seam [] v b = refl
get_seam (x ∷ a) v b = get_seam a v b

-- what stands at that place is that vertex
at_start : (stop : Pos → Bool) (r : List Pos) (i : ℕ) (p : Pos) → StartsAt stop r i → slice_get r i ≡ Some p → stop p ≡ list_any stop r
at_start stop r i p s e =
    let k : Some s.vertex ≡ Some p = sym (get_seam s.before s.vertex s.behind) ∙ (λ j. slice_get (sym s.parted j) (sym s.place j)) ∙ e in
    let same : s.vertex ≡ p = cc in
    ap stop (sym same) ∙ s.meant

-- the place is within the ring
pub index_within : (stop : Pos → Bool) (x : Pos) (r : List Pos) → start_index stop (x ∷ r) < length (x ∷ r)
index_within stop x [] = omega arith
index_within stop x (y ∷ r) =
    let k = index_least stop x y r in
    let o = opening stop x x (y ∷ r) k.before k.here k.behind k.parted in
    let e : length (x ∷ (y ∷ r)) ≡ length (o.left ++ (o.vertex ∷ o.right)) = ap length o.parted in
    let p : start_index stop (x ∷ (y ∷ r)) ≡ length o.left = k.place ∙ sym o.place in
    subst (λ n. n < length (x ∷ (y ∷ r))) (sym p) (subst (λ n. length o.left < n) (sym e) (shorter o.left o.vertex o.right))
  where
    shorter : (a : List Pos) (v : Pos) (b : List Pos) → length a < length (a ++ (v ∷ b))
    shorter [] v b = omega arith
    shorter (z ∷ a) v b = let h = shorter a v b in omega arith

-- in the form of the code
pub no_stop_found : (stop : Pos → Bool) (r : List Pos) (i : ℕ) (p : Pos) → i ≡ start_index stop r → slice_get r i ≡ Some p → stop p ≡ false → None ≡ least_stop stop r
no_stop_found stop [] i p e g h = absurd cc
no_stop_found stop (x ∷ r) i p e g h =
    let t : list_any stop (x ∷ r) ≡ false =
    sym (at_start stop (x ∷ r) (start_index stop (x ∷ r)) p (starts_at stop x r) (ap (slice_get (x ∷ r)) (sym e) ∙ g)) ∙ h in
    ap (λ b. cond b (Some (start_index stop (x ∷ r))) None) (sym t)

pub none_found : (stop : Pos → Bool) (r : List Pos) (i : ℕ) → i ≡ start_index stop r → length r ≤ i → None ≡ least_stop stop r
none_found stop [] i e h = refl
none_found stop (x ∷ r) i e h = let k = index_within stop x r in absurd (omega (arith, e))

-- the ring begun at one of its places
pub opened_parted : (r a : List Pos) (v : Pos) (b : List Pos) (i : ℕ) → r ≡ a ++ (v ∷ b) → i ≡ length a → opened_at i r ≡ v ∷ ((b ++ a) ++ (v ∷ []))
opened_parted r a v b i e g =
    let d : drop i r ≡ v ∷ b = (λ j. drop (g j) (e j)) ∙ drop-append_seam a (v ∷ b) in
    let t : take i r ≡ a = (λ j. take (g j) (e j)) ∙ take-append_seam a (v ∷ b) in
    λ j. (d j ++ t j) ++ take 1 (d j)

-- the turned loop begins with the least stop
pub turned_least : (stop : Pos → Bool) (r : List Pos) → list_any stop r ≡ true → (w : Pos) → Begins w (opened_at (start_index stop r) r) → IsLeastStop stop r w
turned_least stop [] e w h = absurd cc
turned_least stop (x ∷ r) e w h =
    let s = starts_at stop x r in
    let o = opened_parted (x ∷ r) s.before s.vertex s.behind (start_index stop (x ∷ r)) s.parted s.place in
    subst (IsLeastStop stop (x ∷ r)) (sym (subst (Begins w) o h))
    (record {
      there = subst (Has s.vertex) (sym s.parted) (Has-append_right s.vertex s.before (s.vertex ∷ s.behind) (inl refl));
      stops = s.meant ∙ e;
      least = s.least;
    })

-- it begins and ends there, so it has two positions or more
pub turned_long : (stop : Pos → Bool) (r : List Pos) → list_any stop r ≡ true → 2 ≤ length (opened_at (start_index stop r) r)
turned_long stop [] e = absurd cc
turned_long stop (x ∷ r) e =
    let s = starts_at stop x r in
    let o = opened_parted (x ∷ r) s.before s.vertex s.behind (start_index stop (x ∷ r)) s.parted s.place in
    subst (λ w. 2 ≤ length w) (sym o) (closed s.vertex (s.behind ++ s.before))
  where
    closed : (v : Pos) (m : List Pos) → 2 ≤ length (v ∷ (m ++ (v ∷ [])))
    closed v [] = omega arith
    closed v (y ∷ m) = let h = closed v m in omega arith

pub none_to_cut : (junctions : List Pos) (r : List Pos) (i : ℕ) → i ≡ start_index (among junctions) r → length r ≤ i → piece_along true [] ∷ [] ≡ ring_pieces junctions r
none_to_cut junctions [] i e h = refl
none_to_cut junctions (x ∷ r) i e h = let k = index_within (among junctions) x r in absurd (omega (arith, e))

-- the pieces that the code finds, where the ring is cut and where it is not
pub ring_met : (junctions : List Pos) (r : List Pos) (i : ℕ) (p : Pos) → i ≡ start_index (among junctions) r → slice_get r i ≡ Some p → among junctions p ≡ true →
    open_pieces (among junctions) (opened_at i r) ≡ ring_pieces junctions r
ring_met junctions [] i p e g k = absurd cc
ring_met junctions (x ∷ r) i p e g k =
    let stop = among junctions in
    let t : list_any stop (x ∷ r) ≡ true =
    sym (at_start stop (x ∷ r) (start_index stop (x ∷ r)) p (starts_at stop x r) (ap (slice_get (x ∷ r)) (sym e) ∙ g)) ∙ k in
    ap (λ n. open_pieces stop (opened_at n (x ∷ r))) e
    ∙ ap (λ b. map (piece_along (not b)) (cond b (cut_inside stop (started_ring stop (x ∷ r))) (started_ring stop (x ∷ r) ∷ []))) (sym t)

pub ring_unmet : (junctions : List Pos) (r : List Pos) (i : ℕ) (p : Pos) → i ≡ start_index (among junctions) r → slice_get r i ≡ Some p → among junctions p ≡ false →
    piece_along true (opened_at i r) ∷ [] ≡ ring_pieces junctions r
ring_unmet junctions [] i p e g k = absurd cc
ring_unmet junctions (x ∷ r) i p e g k =
    let stop = among junctions in
    let t : list_any stop (x ∷ r) ≡ false =
    sym (at_start stop (x ∷ r) (start_index stop (x ∷ r)) p (starts_at stop x r) (ap (slice_get (x ∷ r)) (sym e) ∙ g)) ∙ k in
    ap (λ n. piece_along true (opened_at n (x ∷ r)) ∷ []) e
    ∙ ap (λ b. map (piece_along (not b)) (cond b (cut_inside stop (started_ring stop (x ∷ r))) (started_ring stop (x ∷ r) ∷ []))) (sym t)

-- each part of a list that begins with a stop begins with a stop
module _ (stop : Pos → Bool) where
  parts_begin : (x : Pos) (m rest : List Pos) → stop x ≡ true → (c : List Pos) → Has c (cut_inside_from stop (x ∷ m) rest) → begins_free stop c ≡ false
  parts_begin x m [] e c (inl q) = ap (begins_free stop) q ∙ ap not e
  parts_begin x m [] e c (inr z) = absurd z
  parts_begin x m (p ∷ rest) e c h =
      go (goes_on rest && stop p) refl (λ k. parts_begin p [] rest k c) (parts_begin x (m ++ (p ∷ [])) rest e c) h
    where
      meant : (a b : Bool) → (a && b) ≡ true → b ≡ true
      meant true b f = f
      meant false b f = absurd cc

      go : (b : Bool) → (goes_on rest && stop p) ≡ b → (stop p ≡ true → Has c (cut_inside_from stop (p ∷ []) rest) → begins_free stop c ≡ false) →
          (Has c (cut_inside_from stop (x ∷ (m ++ (p ∷ []))) rest) → begins_free stop c ≡ false) →
          Has c (cond b ((x ∷ (m ++ (p ∷ []))) ∷ cut_inside_from stop (p ∷ []) rest) (cut_inside_from stop (x ∷ (m ++ (p ∷ []))) rest)) → begins_free stop c ≡ false
      go true f g k (inl q) = ap (begins_free stop) q ∙ ap not e
      go true f g k (inr z) = g (meant (goes_on rest) (stop p) f) z
      go false f g k z = k z

  pub list_begins : (x : Pos) (r : List Pos) → stop x ≡ true → (c : List Pos) → Has c (cut_inside stop (x ∷ r)) → begins_free stop c ≡ false
  list_begins x r e c h = parts_begin x [] r e c h

  -- each part of a ring begins with a stop, if one lies on the ring
  pub ring_begins : (x : Pos) (r : List Pos) (c : List Pos) → Has c (parts_round stop (x ∷ r) (started_ring stop (x ∷ r))) → begins_free stop c ≡ not (list_any stop (x ∷ r))
  ring_begins x r c h = go (list_any stop (x ∷ r)) refl h
    where
      s : StartsAt stop (x ∷ r) (start_index stop (x ∷ r))
      s = starts_at stop x r

      o : started_ring stop (x ∷ r) ≡ s.vertex ∷ ((s.behind ++ s.before) ++ (s.vertex ∷ []))
      o = opened_parted (x ∷ r) s.before s.vertex s.behind (start_index stop (x ∷ r)) s.parted s.place

      go : (b : Bool) → list_any stop (x ∷ r) ≡ b → Has c (cond b (cut_inside stop (started_ring stop (x ∷ r))) (started_ring stop (x ∷ r) ∷ [])) → begins_free stop c ≡ not b
      go true e k = list_begins s.vertex ((s.behind ++ s.before) ++ (s.vertex ∷ [])) (s.meant ∙ e) c (subst (λ w. Has c (cut_inside stop w)) o k)
      go false e (inl q) = ap (begins_free stop) (q ∙ o) ∙ ap not (s.meant ∙ e)
      go false e (inr z) = absurd z
