-- Atoms, tuples and records: their representations are right where those of the components are.
use Rattle.std.proofs.Common.{◌≡◌, refl, sym, ap, ◌∙◌, subst, ℕ, Bool, true, false, ◌&&◌, ◌||◌, if◌then◌else◌, List, [], ◌∷◌, map, take, drop, ℤ, pos, negsuc, Option, Some, None, option_map, nat_le}
use Rattle.std.specs.Ordering.{is_eq}
use Rattle.std.proofs.lemmas.Cmp.{tied_itself}
use Rattle.ess_semantics.specs.declared.words.ReprKind.{ReprKind}
use Rattle.ess_semantics.specs.Lists.{and_then, is_some_and, or_default}
use Rattle.ess_semantics.specs.Values.{Text, a_record, Value, number, truth, item, node, Values, to_list, of_list, tuple}
use Rattle.ess_semantics.specs.Order.{same_int, same_text, same_texts}
use Rattle.ess_semantics.specs.Trees.{Repr, Reprs, repr, no_reprs, more_reprs}
use Rattle.ess_semantics.specs.Domains.{Span, Domain, Domains, booleans, integers, named, tuples, records, no_domains, more_domains, domain_list}
use Rattle.ess_semantics.specs.Membership.{member, member_of_each}
use Rattle.ess_semantics.specs.Tables.{code, truth_of, atom_value, is_cell}
use Rattle.ess_semantics.specs.Cells.{Grid, Cells, Axes, behind, rows}
use Rattle.ess_semantics.specs.Layers.{Layer, as_cell, always_canonical, first_of_each}
use Rattle.ess_semantics.specs.ScalarLayers.{atom_layer, each_alone, compound_items}
use Rattle.ess_semantics.specs.Representations.{width, value_of_cells, values_of_children}
use Rattle.ess_semantics.specs.Tidy.{are_orderly}
use Rattle.ess_repr_laws.specs.CanonicalTables.{Right}
use Rattle.ess_semantics.proofs.Tests.{and-left, and-right, and-both, some-and}
use Rattle.ess_semantics.proofs.Orders.{to_list-of_list, same_int-equal, text_total, texts_total}
use Rattle.ess_repr_laws.proofs.RowsOfCells.{axes-of-layer, axes_of_children}
use Rattle.ess_repr_laws.proofs.CanonicalParts.{Parts, parts-of, asked_of, value_of_layer, value-of-parts}
use Rattle.ess_repr_laws.proofs.CanonicalPlaces.{AllRight, all_places, children-once, AllMembers, children-members, children-orderly, first-child}

-- ---- atoms

-- The number of an atom's cell stands for a member, whose number it is.
abbrev pub Stands : Domain → ℤ → Type 0
Stands d m = (v : Value) × (atom_value d m ≡ Some v) × (member d v ≡ true) × (code v ≡ m)

-- 0 and 1 stand for truth values.
pub boolean-stands : (m : ℤ) → is_cell booleans m ≡ true → Stands booleans m
boolean-stands m h = go (same_int m (pos 0)) refl h
  where
    go : (b : Bool) → same_int m (pos 0) ≡ b → b || same_int m (pos 1) ≡ true → Stands booleans m
    go true q h = let e = same_int-equal m (pos 0) q in (truth false, ap (λ n. option_map truth (truth_of n)) e, refl, sym e)
    go false q h = let e = same_int-equal m (pos 1) h in (truth true, ap (λ n. option_map truth (truth_of n)) e, refl, sym e)

-- A number of the domain stands for itself.
pub integer-stands : (ss : List Span) (m : ℤ) → is_cell (integers ss) m ≡ true → Stands (integers ss) m
integer-stands ss m h = (number m, refl, h, refl)

same-text-itself : (t : Text) → same_text t t ≡ true
same-text-itself t = ap is_eq (tied_itself text_total t)

-- A position of the type stands for its value.
pub named-stands : (t : Text) (n : ℕ) (m : ℤ) → is_cell (as_cell (named t n)) m ≡ true → Stands (named t n) m
named-stands t n (negsuc k) h = cc
named-stands t n (pos k) h = go (within (nat_le 1 k) (nat_le k n) h)
  where
    within : (a b : Bool) → (a && b) || false ≡ true → a && b ≡ true
    within true true h = refl
    within true false h = cc
    within false b h = cc

    go : nat_le 1 k && nat_le k n ≡ true → Stands (named t n) (pos k)
    go h = (
      item t k,
      ap (λ b. if b then Some (item t k) else None) h,
      and-both (same_text t t && nat_le 1 k) (nat_le k n) (and-both (same_text t t) (nat_le 1 k) (same-text-itself t) (and-left (nat_le 1 k) (nat_le k n) h)) (and-right (nat_le 1 k) (nat_le k n) h),
      refl,
    )

module _ (d : Domain) (stands : (m : ℤ) → is_cell (as_cell d) m ≡ true → Stands d m) where
  atom-cell : (f : Grid) → asked_of (atom_layer d) no_reprs (f ∷ []) [] ≡ true → (m : ℤ) × (f [] ≡ Some m) × Stands d m
  atom-cell f h =
      let p = parts-of (atom_layer d) no_reprs (f ∷ []) [] h in
      let s = some-and (f []) (is_cell (as_cell d)) (and-left (is_some_and (f []) (is_cell (as_cell d))) true p.fit) in
      (s.0, s.1, stands s.0 s.2)

  -- cells of more than one table aren't canonical
  too-many : (f g : Grid) (gs : Cells) → asked_of (atom_layer d) no_reprs (f ∷ []) (g ∷ gs) ≡ true → ⊥
  too-many f g gs h = let p = parts-of (atom_layer d) no_reprs (f ∷ []) (g ∷ gs) h in let z : false ≡ true = p.inside in cc

  atom-sound : (c : Cells) → asked_of (atom_layer d) no_reprs (take 1 c) (drop 1 c) ≡ true → (v : Value) × (value_of_layer (atom_layer d) no_reprs (take 1 c) (drop 1 c) ≡ Some v)
  atom-sound [] h = cc
  atom-sound (f ∷ []) h = let s = atom-cell f h in (s.2.0, ap (λ o. and_then o (atom_value d)) s.1 ∙ s.2.1)
  atom-sound (f ∷ g ∷ gs) h = absurd (too-many f g gs h)

  atom-unique : (c c' : Cells) → asked_of (atom_layer d) no_reprs (take 1 c) (drop 1 c) ≡ true → asked_of (atom_layer d) no_reprs (take 1 c') (drop 1 c') ≡ true →
      value_of_layer (atom_layer d) no_reprs (take 1 c) (drop 1 c) ≡ value_of_layer (atom_layer d) no_reprs (take 1 c') (drop 1 c') → rows ([] ∷ []) c ≡ rows ([] ∷ []) c'
  atom-unique [] c' h h' q = cc
  atom-unique (f ∷ g ∷ gs) c' h h' q = absurd (too-many f g gs h)
  atom-unique (f ∷ []) [] h h' q = cc
  atom-unique (f ∷ []) (f' ∷ g ∷ gs) h h' q = absurd (too-many f' g gs h')
  atom-unique (f ∷ []) (f' ∷ []) h h' q =
      let s = atom-cell f h in
      let s' = atom-cell f' h' in
      let e : Some s.2.0 ≡ Some s'.2.0 = sym (ap (λ o. and_then o (atom_value d)) s.1 ∙ s.2.1) ∙ q ∙ (ap (λ o. and_then o (atom_value d)) s'.1 ∙ s'.2.1) in
      let v : s.2.0 ≡ s'.2.0 = cc in
      ap (λ o. (or_default o (pos 0) ∷ []) ∷ []) (s.1 ∙ ap Some (sym s.2.3 ∙ ap code v ∙ s'.2.3) ∙ sym s'.1)

  atom-tidies : (c : Cells) → asked_of (atom_layer d) no_reprs (take 1 c) (drop 1 c) ≡ true → is_some_and (value_of_layer (atom_layer d) no_reprs (take 1 c) (drop 1 c)) (member d) && true ≡ true
  atom-tidies [] h = cc
  atom-tidies (f ∷ []) h =
      let s = atom-cell f h in
      and-both (is_some_and (value_of_layer (atom_layer d) no_reprs (f ∷ []) []) (member d)) true
      (ap (λ o. is_some_and o (member d)) (ap (λ o. and_then o (atom_value d)) s.1 ∙ s.2.1) ∙ s.2.2) refl
  atom-tidies (f ∷ g ∷ gs) h = absurd (too-many f g gs h)

abbrev atom : Repr
atom = repr ReprKind.Atom no_reprs

-- Canonical cells of truth values.
pub boolean-right : Right atom booleans
boolean-right = record { sound = atom-sound booleans boolean-stands; unique = atom-unique booleans boolean-stands; tidies = atom-tidies booleans boolean-stands }

-- Canonical cells of numbers.
pub integer-right : (ss : List Span) → Right atom (integers ss)
integer-right ss = record { sound = atom-sound (integers ss) (integer-stands ss); unique = atom-unique (integers ss) (integer-stands ss); tidies = atom-tidies (integers ss) (integer-stands ss) }

-- Canonical cells of values of named types.
pub named-right : (t : Text) (n : ℕ) → Right atom (named t n)
named-right t n = record { sound = atom-sound (named t n) (named-stands t n); unique = atom-unique (named t n) (named-stands t n); tidies = atom-tidies (named t n) (named-stands t n) }

-- ---- tuples and records

abbrev single : Value → List Value
single v = v ∷ []

-- with one place each child has one value
pub singles : (rs : Reprs) (ds : List Domain) → AllRight rs ds → (c : Cells) (vss : List (List Value)) → values_of_children rs ds c ([] ∷ []) ≡ Some vss → (vs : List Value) × (vss ≡ map single vs)
singles no_reprs [] a c vss q = ([], sym (let z : [] ≡ vss = cc in z))
singles no_reprs (d ∷ ds) a c vss q = absurd a
singles (more_reprs r rs) [] a c vss q = absurd a
singles (more_reprs r rs) (d ∷ ds) a c vss q =
    let x = first-child r d rs ds c ([] ∷ []) vss q in
    let t = singles rs ds a.1 (drop (width r) c) x.others x.rest in
    go (value_of_cells r d (behind [] (take (width r) c))) x.vs x.values x.others x.whole t.0 t.1
  where
    go : (o : Option Value) (vs : List Value) → and_then o (λ y. Some (y ∷ [])) ≡ Some vs → (others : List (List Value)) → vss ≡ vs ∷ others → (ts : List Value) → others ≡ map single ts → (vs : List Value) × (vss ≡ map single vs)
    go None vs p others w ts t = cc
    go (Some v) vs p others w ts t = let e : v ∷ [] ≡ vs = cc in (v ∷ ts, w ∙ ap (λ l. l ∷ others) (sym e) ∙ ap (λ l. (v ∷ []) ∷ l) t)

first-single : (vs : List Value) → first_of_each (map single vs) ≡ vs
first-single [] = refl
first-single (v ∷ vs) = ap (λ l. v ∷ l) (first-single vs)

components : (ds : Domains) (bs : Axes) (f : Cells → List (List Value) → Option Value) (t : Value → List (List (Option Value))) (g : Cells → List (List Value) → Bool) (vs : List Value) →
    AllMembers (domain_list ds) bs f t g (domain_list ds) (map single vs) → member_of_each ds (of_list vs) ≡ true
components no_domains bs f t g [] h = refl
components no_domains bs f t g (v ∷ vs) h = absurd h
components (more_domains d ds) bs f t g [] h = absurd h
components (more_domains d ds) bs f t g (v ∷ vs) h = and-both (member d v) (member_of_each ds (of_list vs)) (and-left (member d v) true h.0) (components ds bs f t g vs h.1)

-- w makes the value of its components, and D is its domain
module _ (rs : Reprs) (ds : Domains) (a : AllRight rs (domain_list ds)) (w : Values → Value) (apart : (xs ys : Values) → w xs ≡ w ys → xs ≡ ys)
    (D : Domain) (whole : (vs : List Value) → member_of_each ds (of_list vs) ≡ true → member D (w (of_list vs)) ≡ true) where
  abbrev build : Cells → List (List Value) → Option Value
  build c vss = Some (w (of_list (first_of_each vss)))

  abbrev contents_of : Value → List (List (Option Value))
  contents_of v = each_alone (compound_items v)

  abbrev compound : Layer
  compound = all_places (domain_list ds) [] build contents_of always_canonical

  compound-sound : (own inner : Cells) → asked_of compound rs own inner ≡ true → (v : Value) × (value_of_layer compound rs own inner ≡ Some v)
  compound-sound own inner h = let p = parts-of compound rs own inner h in (w (of_list (first_of_each p.vss)), value-of-parts compound rs own inner p)

  -- the values of the only place
  values-there : (own inner : Cells) (p : Parts compound rs own inner) → values_of_children rs (domain_list ds) inner ([] ∷ []) ≡ Some p.vss
  values-there own inner p = let js : p.js ≡ [] ∷ [] = let z : Some p.js ≡ Some ([] ∷ []) = sym p.used in cc in ap (values_of_children rs (domain_list ds) inner) (sym js) ∙ p.values

  compound-unique : (own own' inner inner' : Cells) → asked_of compound rs own inner ≡ true → asked_of compound rs own' inner' ≡ true →
      value_of_layer compound rs own inner ≡ value_of_layer compound rs own' inner' → rows (axes_of_children rs (domain_list ds) []) inner ≡ rows (axes_of_children rs (domain_list ds) []) inner'
  compound-unique own own' inner inner' h h' q =
      let p = parts-of compound rs own inner h in
      let p' = parts-of compound rs own' inner' h' in
      let e : Some (w (of_list (first_of_each p.vss))) ≡ Some (w (of_list (first_of_each p'.vss))) = sym (value-of-parts compound rs own inner p) ∙ q ∙ value-of-parts compound rs own' inner' p' in
      let e' : w (of_list (first_of_each p.vss)) ≡ w (of_list (first_of_each p'.vss)) = cc in
      let f : first_of_each p.vss ≡ first_of_each p'.vss = sym (to_list-of_list (first_of_each p.vss)) ∙ ap to_list (apart (of_list (first_of_each p.vss)) (of_list (first_of_each p'.vss)) e') ∙ to_list-of_list (first_of_each p'.vss) in
      let s = singles rs (domain_list ds) a inner p.vss (values-there own inner p) in
      let s' = singles rs (domain_list ds) a inner' p'.vss (values-there own' inner' p') in
      let vs : s.0 ≡ s'.0 = sym (ap first_of_each s.1 ∙ first-single s.0) ∙ f ∙ (ap first_of_each s'.1 ∙ first-single s'.0) in
      let vss : p'.vss ≡ p.vss = s'.1 ∙ ap (map single) (sym vs) ∙ sym s.1 in
      children-once (domain_list ds) [] build contents_of always_canonical own own' rs (domain_list ds) a inner inner' p.vss p.inside p'.inside (values-there own inner p) (values-there own' inner' p' ∙ ap Some vss)

  compound-tidies : (own inner : Cells) → asked_of compound rs own inner ≡ true → is_some_and (value_of_layer compound rs own inner) (member D) && (true && true && are_orderly compound rs (domain_list ds) inner ([] ∷ [])) ≡ true
  compound-tidies own inner h =
      let p = parts-of compound rs own inner h in
      let s = singles rs (domain_list ds) a inner p.vss (values-there own inner p) in
      let ms = children-members (domain_list ds) [] build contents_of always_canonical own rs (domain_list ds) a inner p.vss p.inside (values-there own inner p) in
      let m = components ds [] build contents_of always_canonical s.0 (subst (AllMembers (domain_list ds) [] build contents_of always_canonical (domain_list ds)) s.1 ms) in
      and-both (is_some_and (value_of_layer compound rs own inner) (member D)) (are_orderly compound rs (domain_list ds) inner ([] ∷ []))
      (ap (λ o. is_some_and o (member D)) (value-of-parts compound rs own inner p) ∙ ap (λ vs. member D (w (of_list vs))) (ap first_of_each s.1 ∙ first-single s.0) ∙ whole s.0 m)
      (children-orderly (domain_list ds) [] build contents_of always_canonical own rs (domain_list ds) a inner p.inside)

-- Canonical cells of tuples.
pub tuple-right : (rs : Reprs) (ds : Domains) → AllRight rs (domain_list ds) → Right (repr ReprKind.Tuple rs) (tuples ds)
tuple-right rs ds a = record {
  sound = λ c h. compound-sound rs ds a tuple (λ xs ys e. cc) (tuples ds) (λ vs h. h) (take 0 c) (drop 0 c) h;
  unique = λ c c' h h' q. ap (λ x. rows x c) (axes-of-layer (compound rs ds a tuple (λ xs ys e. cc) (tuples ds) (λ vs h. h)) rs)
      ∙ compound-unique rs ds a tuple (λ xs ys e. cc) (tuples ds) (λ vs h. h) (take 0 c) (take 0 c') (drop 0 c) (drop 0 c') h h' q
      ∙ sym (ap (λ x. rows x c') (axes-of-layer (compound rs ds a tuple (λ xs ys e. cc) (tuples ds) (λ vs h. h)) rs));
  tidies = λ c h. compound-tidies rs ds a tuple (λ xs ys e. cc) (tuples ds) (λ vs h. h) (take 0 c) (drop 0 c) h;
}

record-whole : (fs : List Text) (ds : Domains) (vs : List Value) → member_of_each ds (of_list vs) ≡ true → member (records fs ds) (node (a_record fs) (of_list vs)) ≡ true
record-whole fs ds vs h = and-both (same_texts fs fs) (member_of_each ds (of_list vs)) (ap is_eq (tied_itself texts_total fs)) h

-- Canonical cells of records.
pub record-right : (rs : Reprs) (fs : List Text) (ds : Domains) → AllRight rs (domain_list ds) → Right (repr ReprKind.Rec rs) (records fs ds)
record-right rs fs ds a = record {
  sound = λ c h. compound-sound rs ds a (node (a_record fs)) (λ xs ys e. cc) (records fs ds) (record-whole fs ds) (take 0 c) (drop 0 c) h;
  unique = λ c c' h h' q. ap (λ x. rows x c) (axes-of-layer (compound rs ds a (node (a_record fs)) (λ xs ys e. cc) (records fs ds) (record-whole fs ds)) rs)
      ∙ compound-unique rs ds a (node (a_record fs)) (λ xs ys e. cc) (records fs ds) (record-whole fs ds) (take 0 c) (take 0 c') (drop 0 c) (drop 0 c') h h' q
      ∙ sym (ap (λ x. rows x c') (axes-of-layer (compound rs ds a (node (a_record fs)) (λ xs ys e. cc) (records fs ds) (record-whole fs ds)) rs));
  tidies = λ c h. compound-tidies rs ds a (node (a_record fs)) (λ xs ys e. cc) (records fs ds) (record-whole fs ds) (take 0 c) (drop 0 c) h;
}
