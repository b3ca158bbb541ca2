-- Texts of which all are read, and the shards of those that are named are kept.
use Rattle.std.proofs.Common.{◌≡◌, ℕ, ◌+◌, ◌<◌, Bool, true, false, List, [], ◌∷◌, ◌++◌, length, get_or, None, refl, sym, ◌∙◌, ap, subst, arith, append-nil}
use Rattle.std.specs.Prelude.{map as map_list, All}
use Rattle.std.proofs.lemmas.List.{map-append, length-append}
use Rattle.std.proofs.lemmas.List.Elements.{All-nil, All-cons, All-head, All-tail}
use Rattle.grid.specs.Place.{Transform}
use Rattle.shapes.specs.Maps.{Layers}
use Rattle.topo_io.specs.Means.{Means}
use Rattle.merging.specs.Naming.{AreMarksOf, kept}
use Rattle.merging.specs.Plans.{first_other, union_all, union_at}
use Rattle.merging.specs.Merge.{Meaning, as_meaning, AreKept}
use Rattle.merging.proofs.PlanLemmas.{off_grid_none}
use Rattle.merging.proofs.MergeLemmas.{SoFar, one_more, all_read, none_read, read_length, length_bytes, other_mapped}
use Rattle.merging.proofs.NamingLemmas.{marked_union, some_marked, none_kept, kept-push, kept-map}

-- the texts before that number were read, and the shards are those of the marked ones
pub record KeptSoFar {S : Type 0} (grid : S → Transform) (map_of : S → Layers) (texts left : List (List ℕ)) (marks : List Bool) (number : ℕ) (grids : List Transform) (shards : List S) : Type 0 where
  pub meanings : List Meaning
  pub so_far : SoFar (λ m. m.grid) (λ m. m.layers) texts left number meanings
  pub grids_of : grids ≡ map_list (λ m. m.grid) meanings
  pub shards_of : map_list (λ s. as_meaning (grid s) (map_of s)) shards ≡ kept marks meanings

kept_all : {X : Type 0} (P : X → Type 0) (marks : List Bool) (xs : List X) → All P xs → All P (kept marks xs)
kept_all P [] xs h = All-nil P
kept_all P (b ∷ bs) [] h = All-nil P
kept_all P (true ∷ bs) (x ∷ xs) h = All-cons P x (kept bs xs) (All-head P x xs h) (kept_all P bs xs (All-tail P x xs h))
kept_all P (false ∷ bs) (x ∷ xs) h = kept_all P bs xs (All-tail P x xs h)

all_of_mapped : {X Y : Type 0} (P : Y → Type 0) (f : X → Y) (xs : List X) → All P (map_list f xs) → All (λ x. P (f x)) xs
all_of_mapped P f [] h = All-nil (λ x. P (f x))
all_of_mapped P f (x ∷ xs) h = All-cons (λ y. P (f y)) x xs (All-head P (f x) (map_list f xs) h) (all_of_mapped P f xs (All-tail P (f x) (map_list f xs) h))

module _ {S : Type 0} (grid : S → Transform) (map_of : S → Layers) where
  abbrev pub meaning_of : S → Meaning
  meaning_of s = as_meaning (grid s) (map_of s)

  pub nothing_kept : (texts : List (List ℕ)) (marks : List Bool) (grids : List Transform) (shards : List S) → grids ≡ [] → shards ≡ [] → KeptSoFar grid map_of texts texts marks 0 grids shards
  nothing_kept texts marks grids shards e k = record {
    meanings = [];
    so_far = none_read (λ m. m.grid) (λ m. m.layers) texts [] refl;
    grids_of = e;
    shards_of = ap (map_list meaning_of) k ∙ sym (none_kept marks);
  }

  pub count_read : (texts left : List (List ℕ)) (marks : List Bool) (number : ℕ) (grids : List Transform) (shards : List S) → KeptSoFar grid map_of texts left marks number grids shards → length grids ≡ number
  count_read texts left marks number grids shards old =
      ap length old.grids_of ∙ length_bytes (λ m. m.grid) old.meanings
      ∙ read_length (λ m. m.grid) (λ m. m.layers) old.so_far.before old.meanings old.so_far.read ∙ old.so_far.at

  pub number_within : (texts left : List (List ℕ)) (text : List ℕ) (after : List (List ℕ)) (marks : List Bool) (number : ℕ) (grids : List Transform) (shards : List S)
      → KeptSoFar grid map_of texts left marks number grids shards → left ≡ text ∷ after → number < length texts
  number_within texts left text after marks number grids shards old e =
      let at = old.so_far.at in
      omega (arith, at, ap length old.so_far.parts, length-append old.so_far.before left, ap length e)

  -- one more text is read
  one_kept : (texts left : List (List ℕ)) (text : List ℕ) (after : List (List ℕ)) (marks : List Bool) (number : ℕ) (grids more_grids : List Transform) (shards more : List S) (g : Transform) (m : Layers) (b : Bool)
      → KeptSoFar grid map_of texts left marks number grids shards → left ≡ text ∷ after → Means text g m → more_grids ≡ grids ++ (g ∷ [])
      → get_or marks number false ≡ b → map_list meaning_of more ≡ map_list meaning_of shards ++ kept (b ∷ []) (as_meaning g m ∷ [])
      → KeptSoFar grid map_of texts after marks (number + 1) more_grids more
  one_kept texts left text after marks number grids more_grids shards more g m b old e means same marked is =
      let x = as_meaning g m in
      let at : length old.meanings ≡ number = read_length (λ m. m.grid) (λ m. m.layers) old.so_far.before old.meanings old.so_far.read ∙ old.so_far.at in
      record {
        meanings = old.meanings ++ (x ∷ []);
        so_far = one_more (λ m. m.grid) (λ m. m.layers) texts left text after number old.meanings x old.so_far e means;
        grids_of = same ∙ ap (λ w. w ++ (g ∷ [])) old.grids_of ∙ sym (map-append (λ m. m.grid) old.meanings (x ∷ []));
        shards_of = is ∙ ap (λ w. w ++ kept (b ∷ []) (x ∷ [])) old.shards_of ∙ sym (kept-push marks old.meanings x b (ap (λ n. get_or marks n false) at ∙ marked));
      }

  -- the text is marked, and its shard is kept
  pub shard_kept : (texts left : List (List ℕ)) (text : List ℕ) (after : List (List ℕ)) (marks : List Bool) (number : ℕ) (grids more_grids : List Transform) (shards more : List S) (g : Transform) (s : S)
      → KeptSoFar grid map_of texts left marks number grids shards → left ≡ text ∷ after → Means text (grid s) (map_of s) → g ≡ grid s → more_grids ≡ grids ++ (g ∷ [])
      → get_or marks number false ≡ true → more ≡ shards ++ (s ∷ []) → KeptSoFar grid map_of texts after marks (number + 1) more_grids more
  shard_kept texts left text after marks number grids more_grids shards more g s old e means on same marked is =
      one_kept texts left text after marks number grids more_grids shards more (grid s) (map_of s) true old e means (same ∙ ap (λ h. grids ++ (h ∷ [])) on) marked
      (ap (map_list meaning_of) is ∙ map-append meaning_of shards (s ∷ []))

  -- the text is not marked, and its shard is not kept
  pub shard_dropped : (texts left : List (List ℕ)) (text : List ℕ) (after : List (List ℕ)) (marks : List Bool) (number : ℕ) (grids more_grids : List Transform) (shards more : List S) (g : Transform) (m : Layers)
      → KeptSoFar grid map_of texts left marks number grids shards → left ≡ text ∷ after → Means text g m → more_grids ≡ grids ++ (g ∷ [])
      → get_or marks number false ≡ false → more ≡ shards → KeptSoFar grid map_of texts after marks (number + 1) more_grids more
  shard_dropped texts left text after marks number grids more_grids shards more g m old e means same marked is =
      one_kept texts left text after marks number grids more_grids shards more g m false old e means same marked
      (ap (map_list meaning_of) is ∙ sym (append-nil (map_list meaning_of shards)))

  -- all texts are read
  pub all_kept : (texts left : List (List ℕ)) (marks : List Bool) (number : ℕ) (grids : List Transform) (shards : List S)
      → KeptSoFar grid map_of texts left marks number grids shards → left ≡ [] → AreKept grid map_of texts marks grids shards
  all_kept texts left marks number grids shards old none = record {
    meanings = old.meanings;
    read = all_read (λ m. m.grid) (λ m. m.layers) texts left number old.meanings old.so_far none;
    grids_of = old.grids_of;
    shards_of = old.shards_of;
  }

  module _ (texts : List (List ℕ)) (marks : List Bool) (grids : List Transform) (shards : List S) (k : AreKept grid map_of texts marks grids shards) where
    long : length texts ≡ length k.meanings
    long = sym (read_length (λ m. m.grid) (λ m. m.layers) texts k.meanings k.read)

    -- some text is marked
    pub some_kept : (is : List ℕ) → 0 < length is → AreMarksOf (length texts) is marks → 0 < length shards
    some_kept is lt a =
        let some : 0 < length (kept marks k.meanings) = some_marked k.meanings is marks (subst (λ n. AreMarksOf n is marks) long a) lt in
        let same : length shards ≡ length (kept marks k.meanings) = sym (length_bytes meaning_of shards) ∙ ap length k.shards_of in
        omega arith

    -- the shards of the marked texts have the union of the maps at the indexes
    pub kept_union : (is : List ℕ) → AreMarksOf (length texts) is marks → union_all (map_list map_of shards) ≡ union_at (map_list (λ m. m.layers) k.meanings) is
    kept_union is a =
        let maps = map_list (λ m. m.layers) k.meanings in
        let count : length texts ≡ length maps = long ∙ sym (length_bytes (λ m. m.layers) k.meanings) in
        ap union_all (sym (twice shards) ∙ ap (map_list (λ m. m.layers)) k.shards_of ∙ kept-map (λ m. m.layers) marks k.meanings)
        ∙ marked_union maps is marks (subst (λ n. AreMarksOf n is marks) count a)
      where
        twice : (ss : List S) → map_list (λ m. m.layers) (map_list meaning_of ss) ≡ map_list map_of ss
        twice [] = refl
        twice (s ∷ ss) = ap (λ w. map_of s ∷ w) (twice ss)

    -- what the texts mean, and the shards, are on one grid
    pub one_grid_kept : None ≡ first_other (λ g. g) grids → 0 < length shards → (g : Transform) × All (λ m. m.grid ≡ g) k.meanings × All (λ s. grid s ≡ g) shards
    one_grid_kept none some = go k.meanings k.shards_of (sym (other_mapped (λ m. m.grid) k.meanings) ∙ ap (first_other (λ g. g)) (sym k.grids_of) ∙ sym none)
      where
        go : (ms : List Meaning) → map_list meaning_of shards ≡ kept marks ms → first_other (λ m. m.grid) ms ≡ None → (g : Transform) × All (λ m. m.grid ≡ g) ms × All (λ s. grid s ≡ g) shards
        go [] e h = absurd (omega (arith, some, length_bytes meaning_of shards, ap length (e ∙ none_kept marks)))
        go (m ∷ ms) e h =
            let here : All (λ n. n.grid ≡ m.grid) (m ∷ ms) = off_grid_none (λ n. n.grid) m.grid (m ∷ ms) h in
            (m.grid, here, all_of_mapped (λ n. n.grid ≡ m.grid) meaning_of shards (subst (All (λ n. n.grid ≡ m.grid)) (sym e) (kept_all (λ n. n.grid ≡ m.grid) marks (m ∷ ms) here)))
