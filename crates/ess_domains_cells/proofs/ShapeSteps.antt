-- Sizes and axes that code takes from closed domains, known by what is kept of them.
use Rattle.std.proofs.Common.{◌≡◌, refl, sym, ap, ◌∙◌, ℕ, ◌+◌, ◌*◌, ◌<◌, ◌≤◌, Bool, true, false, if◌then◌else◌, List, length, drop, get_or, Option, Some, None, option_map, arith}
use Rattle.std.proofs.lemmas.List.{at_drop_more, at_drop_all}
use Rattle.ess_semantics.specs.declared.words.ReprKind.{ReprKind}
use Rattle.ess_semantics.specs.declared.words.Key.{Key}
use Rattle.ess_semantics.specs.Lists.{or_else, or_default}
use Rattle.ess_semantics.specs.Domains as pure
use Rattle.ess_semantics.specs.Domains.{Domain, Domains, member_list, attribute, has}
use Rattle.ess_semantics.specs.Sizes.{greatest_size, occurrences, bound, slots_of_mset}
use Rattle.ess_eval_domains.specs.declared.closed.Closed.{Closed}
use Rattle.ess_eval_domains.specs.ClosedViews.{pure_closed, pure_closeds}
use Rattle.ess_domains_cells.specs.Kept.{kept, greater}
use Rattle.ess_domains_cells.specs.LayerCounts.{longest_members}
use Rattle.ess_domains_cells.specs.KindCounts.{is_atom_kind, counted_atom, pair_size, parts_size}
use Rattle.ess_domains_cells.proofs.KeptNumbers.{kept_greater}
use Rattle.ess_domains_cells.proofs.PartProducts.{product-kept-right}

-- ---- atoms

pub atom_there : (k : ReprKind) (v l g r : ℕ) → is_atom_kind k ≡ true → g ≡ greater v l → r ≡ kept g → r ≡ kept (counted_atom k v l)
atom_there k v l g r h e p = p ∙ ap kept e ∙ sym (ap (λ t. kept (if t then greater v l else 0)) h)

pub atom_other : (k : ReprKind) (v l : ℕ) → is_atom_kind k ≡ false → 0 ≡ kept (counted_atom k v l)
atom_other k v l h = sym (ap (λ t. kept (if t then greater v l else 0)) h)

-- ---- the longest axis

longest-on : (t n own later : ℕ) → n ≡ kept own → greater (greater t n) (kept later) ≡ greater t (kept (greater own later))
longest-on t n own later e =
    ap (λ j. greater (greater t j) (kept later)) e ∙ assoc t (kept own) (kept later) ∙ ap (greater t) (kept_greater own later)
  where
    assoc : (a b c : ℕ) → greater (greater a b) c ≡ greater a (greater b c)
    assoc a b c = grind arith

pub longest_none : (ds : List Closed) → greater 0 (kept (longest_members (pure_closeds ds))) ≡ kept (longest_members (pure_closeds ds))
longest_none ds = go (kept (longest_members (pure_closeds ds)))
  where
    go : (n : ℕ) → greater 0 n ≡ n
    go n = grind arith

pub longest_more : (ds : List Closed) (i : ℕ) (d : Closed) (t t' n : ℕ) → i < length ds → d ≡ get_or ds i d
    → n ≡ kept (length (member_list (pure_closed d))) → t' ≡ greater t n
    → greater t (kept (longest_members (pure_closeds (drop i ds)))) ≡ kept (longest_members (pure_closeds ds))
    → greater t' (kept (longest_members (pure_closeds (drop (i + 1) ds)))) ≡ kept (longest_members (pure_closeds ds))
longest_more ds i d t t' n h is e g p =
    let later = longest_members (pure_closeds (drop (i + 1) ds)) in
    let split : longest_members (pure_closeds (drop i ds)) ≡ greater (length (member_list (pure_closed d))) later =
    at_drop_more (λ l. longest_members (pure_closeds l)) ds i d h ∙ ap (λ c. greater (length (member_list (pure_closed c))) later) (sym is) in
    ap (λ j. greater j (kept later)) g ∙ longest-on t n (length (member_list (pure_closed d))) later e ∙ ap (λ j. greater t (kept j)) (sym split) ∙ p

pub longest_all : (ds : List Closed) (i t : ℕ) → length ds ≤ i
    → greater t (kept (longest_members (pure_closeds (drop i ds)))) ≡ kept (longest_members (pure_closeds ds)) → t ≡ kept (longest_members (pure_closeds ds))
longest_all ds i t h p = sym (ap (λ j. greater t (kept j)) (at_drop_all (λ l. longest_members (pure_closeds l)) ds i h) ∙ go t) ∙ p
  where
    go : (n : ℕ) → greater n (kept 0) ≡ n
    go n = grind arith

-- ---- sizes

pub slots_sized : (ks : List pure.Attribute) (d : Domain) (n r : ℕ) → Some n ≡ greatest_size ks → r ≡ kept n → r ≡ kept (slots_of_mset ks d)
slots_sized ks d n r e p = p ∙ ap (λ o. kept (or_default o (occurrences ks * bound d))) e

pub slots_free : (ks : List pure.Attribute) (d : Domain) (o b r : ℕ) → None ≡ greatest_size ks → o ≡ occurrences ks → b ≡ kept (bound d) → r ≡ kept (o * b) → r ≡ kept (slots_of_mset ks d)
slots_free ks d o b r e f g p =
    p ∙ ap (λ j. kept (j * b)) f ∙ ap (λ j. kept (occurrences ks * j)) g ∙ product-kept-right (occurrences ks) (bound d)
    ∙ ap (λ s. kept (or_default s (occurrences ks * bound d))) e

pub size_there : (n r b : ℕ) → r ≡ kept n → r ≡ kept (or_default (Some n) b)
size_there n r b e = e

pub size_none : (b r : ℕ) → r ≡ kept b → r ≡ kept (or_default None b)
size_none b r e = e

kept-or : (o : Option ℕ) (b : ℕ) → Some (kept (or_default o b)) ≡ option_map kept (or_else o (Some b))
kept-or None b = refl
kept-or (Some n) b = refl

pub pair_total : (ks : List pure.Attribute) (d : Domain) (b : ℕ) → has Key.Total ks ≡ true → b ≡ kept (bound d) → Some b ≡ option_map kept (pair_size ks d)
pair_total ks d b h e =
    ap Some e ∙ sym (ap (λ t. option_map kept (if t then Some (bound d) else or_else (attribute Key.Size ks) (if has Key.Size ks then attribute Key.MaxSize ks else or_else (attribute Key.MaxSize ks) (Some (bound d))))) h)

pair-part : (ks : List pure.Attribute) (d : Domain) → has Key.Total ks ≡ false
    → option_map kept (pair_size ks d) ≡ option_map kept (or_else (attribute Key.Size ks) (if has Key.Size ks then attribute Key.MaxSize ks else or_else (attribute Key.MaxSize ks) (Some (bound d))))
pair-part ks d h =
    ap (λ t. option_map kept (if t then Some (bound d) else or_else (attribute Key.Size ks) (if has Key.Size ks then attribute Key.MaxSize ks else or_else (attribute Key.MaxSize ks) (Some (bound d))))) h

sized-part : (s : Option ℕ) (t : Bool) (m : Option ℕ) (b n r : ℕ) → Some n ≡ s → r ≡ kept n → Some r ≡ option_map kept (or_else s (if t then m else or_else m (Some b)))
sized-part s t m b n r e p = ap Some p ∙ ap (λ o. option_map kept (or_else o (if t then m else or_else m (Some b)))) e

unnumbered-part : (s : Option ℕ) (t : Bool) (m r : Option ℕ) (b : ℕ) → None ≡ s → t ≡ true → r ≡ option_map kept m → r ≡ option_map kept (or_else s (if t then m else or_else m (Some b)))
unnumbered-part s t m r b e h p =
    p ∙ sym (ap (λ q. option_map kept (or_else None (if q then m else or_else m (Some b)))) h) ∙ ap (λ o. option_map kept (or_else o (if t then m else or_else m (Some b)))) e

free-part : (s : Option ℕ) (t : Bool) (m : Option ℕ) (b r : ℕ) → None ≡ s → t ≡ false → r ≡ kept (or_default m b) → Some r ≡ option_map kept (or_else s (if t then m else or_else m (Some b)))
free-part s t m b r e h p =
    ap Some p ∙ kept-or m b ∙ sym (ap (λ q. option_map kept (or_else None (if q then m else or_else m (Some b)))) h) ∙ ap (λ o. option_map kept (or_else o (if t then m else or_else m (Some b)))) e

pub pair_sized : (ks : List pure.Attribute) (d : Domain) (n r : ℕ) → has Key.Total ks ≡ false → Some n ≡ attribute Key.Size ks → r ≡ kept n → Some r ≡ option_map kept (pair_size ks d)
pair_sized ks d n r h e p = sized-part (attribute Key.Size ks) (has Key.Size ks) (attribute Key.MaxSize ks) (bound d) n r e p ∙ sym (pair-part ks d h)

pub pair_unnumbered : (ks : List pure.Attribute) (d : Domain) (m r : Option ℕ) → has Key.Total ks ≡ false → None ≡ attribute Key.Size ks → has Key.Size ks ≡ true
    → m ≡ attribute Key.MaxSize ks → r ≡ option_map kept m → r ≡ option_map kept (pair_size ks d)
pair_unnumbered ks d m r h e t f p = unnumbered-part (attribute Key.Size ks) (has Key.Size ks) (attribute Key.MaxSize ks) r (bound d) e t (p ∙ ap (option_map kept) f) ∙ sym (pair-part ks d h)

pub pair_free : (ks : List pure.Attribute) (d : Domain) (m : Option ℕ) (r : ℕ) → has Key.Total ks ≡ false → None ≡ attribute Key.Size ks → has Key.Size ks ≡ false
    → m ≡ attribute Key.MaxSize ks → r ≡ kept (or_default m (bound d)) → Some r ≡ option_map kept (pair_size ks d)
pair_free ks d m r h e t f p =
    free-part (attribute Key.Size ks) (has Key.Size ks) (attribute Key.MaxSize ks) (bound d) r e t (p ∙ ap (λ o. kept (or_default o (bound d))) f) ∙ sym (pair-part ks d h)

pub parts_sized : (ks : List pure.Attribute) (d : Domain) (n r : ℕ) → Some n ≡ attribute Key.NumParts ks → r ≡ kept n → Some r ≡ option_map kept (parts_size ks d)
parts_sized ks d n r e p = sized-part (attribute Key.NumParts ks) (has Key.NumParts ks) (attribute Key.MaxNumParts ks) (bound d) n r e p

pub parts_unnumbered : (ks : List pure.Attribute) (d : Domain) (m r : Option ℕ) → None ≡ attribute Key.NumParts ks → has Key.NumParts ks ≡ true
    → m ≡ attribute Key.MaxNumParts ks → r ≡ option_map kept m → r ≡ option_map kept (parts_size ks d)
parts_unnumbered ks d m r e t f p = unnumbered-part (attribute Key.NumParts ks) (has Key.NumParts ks) (attribute Key.MaxNumParts ks) r (bound d) e t (p ∙ ap (option_map kept) f)

pub parts_free : (ks : List pure.Attribute) (d : Domain) (m : Option ℕ) (r : ℕ) → None ≡ attribute Key.NumParts ks → has Key.NumParts ks ≡ false
    → m ≡ attribute Key.MaxNumParts ks → r ≡ kept (or_default m (bound d)) → Some r ≡ option_map kept (parts_size ks d)
parts_free ks d m r e t f p =
    free-part (attribute Key.NumParts ks) (has Key.NumParts ks) (attribute Key.MaxNumParts ks) (bound d) r e t (p ∙ ap (λ o. kept (or_default o (bound d))) f)
