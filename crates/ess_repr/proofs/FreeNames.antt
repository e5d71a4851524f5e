-- Names that are free, tried in turn.
use Rattle.std.proofs.Common.{◌≡◌, refl, sym, ap, ◌∙◌, ℕ, zero, suc, ◌+◌, ◌-◌, ◌<◌, ◌≤◌, drop, get_or, arith, ◌||◌, Bool, true, false, if◌then◌else◌, List, [], ◌∷◌, ◌++◌, map, length, codes}
use Rattle.std.specs.List.{list_any}
use Rattle.std.proofs.lemmas.List.{length-append, length-map, map_push, append_assoc, append-nil, at_drop_more, at_drop_all}
use Rattle.std.proofs.lemmas.List.Folds.{list_any-append}
use Rattle.ess_semantics.specs.Values.{Text}
use Rattle.ess_semantics.specs.Order.{same_text}
use Rattle.ess_semantics.specs.Names.{is_among}
use Rattle.ess_semantics.specs.TableNames.{free_within, free_name}
use Rattle.ess_semantics.specs.DeclaredTables.{TableDecl}
use Rattle.ess_core.specs.declared.tables.CellDecl.{CellDecl}
use Rattle.ess_core.specs.TreeViews.{pure_dom}
use Rattle.ess_core.specs.TableViews.{pure_decl}
use Rattle.ess_repr_declare_laws.specs.DeclaredTrees.{decl, named_trees, below_layer}
use Rattle.ess_repr.specs.Fronts.{decl_text}

-- A name that is free stays.
stays : (k : ℕ) (ns : List Text) (a : Text) → is_among ns a ≡ false → free_within k ns a ≡ a
stays zero ns a h = refl
stays (suc k) ns a h = ap (λ b. if b then free_within k ns (a ++ codes "_") else a) h

one-more : (j k : ℕ) → suc j + k ≡ suc (j + k)
one-more j k = omega arith

none-more : (k : ℕ) → k ≡ 0 + k
none-more k = omega arith

try-more : (j k : ℕ) (ns : List Text) (a : Text) (b : Bool) → is_among ns a ≡ b →
    free_within k ns (free_within j ns (a ++ codes "_")) ≡ free_within (j + k) ns (a ++ codes "_") →
    free_within k ns (free_within (suc j) ns a) ≡ free_within (suc j + k) ns a
try-more j k ns a true h ih =
    ap (λ c. free_within k ns (if c then free_within j ns (a ++ codes "_") else a)) h
    ∙ ih
    ∙ sym (ap (λ n. free_within n ns a) (one-more j k) ∙ ap (λ c. if c then free_within (j + k) ns (a ++ codes "_") else a) h)
try-more j k ns a false h ih =
    ap (λ c. free_within k ns (if c then free_within j ns (a ++ codes "_") else a)) h
    ∙ stays k ns a h
    ∙ sym (ap (λ n. free_within n ns a) (one-more j k) ∙ ap (λ c. if c then free_within (j + k) ns (a ++ codes "_") else a) h)

-- Tries after tries are as many tries.
more-tries : (j k : ℕ) (ns : List Text) (a : Text) → free_within k ns (free_within j ns a) ≡ free_within (j + k) ns a
more-tries zero k ns a = ap (λ n. free_within n ns a) (none-more k)
more-tries (suc j) k ns a = try-more j k ns a (is_among ns a) refl (more-tries j k ns (a ++ codes "_"))

-- A name that is free is what further tries give.
pub name_free : (left tries : ℕ) (ns : List Text) (a b : Text) → is_among ns a ≡ false → free_within left ns a ≡ free_within tries ns b → a ≡ free_within tries ns b
name_free left tries ns a b h p = sym (stays left ns a h) ∙ p

-- A name that is taken is tried with one `_` more.
pub name_taken : (left rest tries : ℕ) (ns : List Text) (a b c : Text) → left ≡ suc rest → is_among ns a ≡ true → c ≡ a ++ codes "_" →
    free_within left ns a ≡ free_within tries ns b → free_within rest ns c ≡ free_within tries ns b
name_taken left rest tries ns a b c e h q p =
    ap (free_within rest ns) q
    ∙ sym (ap (λ x. if x then free_within rest ns (a ++ codes "_") else a) h)
    ∙ ap (λ k. free_within k ns a) (sym e) ∙ p

-- As many tries as there are names, and one more.
pub tries_in_turn : (ts : List CellDecl) (ns : List Text) (a b c d : Text) → b ≡ free_within (length ts) (map decl_text ts ++ ns) a →
    c ≡ free_within (length ns) (map decl_text ts ++ ns) b → d ≡ free_within 1 (map decl_text ts ++ ns) c → d ≡ free_name (map decl_text ts ++ ns) a
tries_in_turn ts ns a b c d p q r =
    let all : List Text = map decl_text ts ++ ns in
    r ∙ ap (free_within 1 all) (q ∙ ap (free_within (length ns) all) p ∙ more-tries (length ts) (length ns) all a)
    ∙ more-tries (length ts + length ns) 1 all a
    ∙ ap (λ k. free_within k all a) (count (length all) (length-append (map decl_text ts) ns ∙ ap (λ k. k + length ns) (length-map ts decl_text)))
  where
    count : (k : ℕ) → k ≡ length ts + length ns → (length ts + length ns) + 1 ≡ suc k
    count k e = omega arith

-- Whether a name is among those of tables and others.
pub among_both : (ts : List CellDecl) (ns : List Text) (a : Text) →
    is_among (map decl_text ts ++ ns) a ≡ (list_any (λ t. same_text t.name a) ts || is_among ns a)
among_both ts ns a = list_any-append (λ n. same_text n a) (map decl_text ts) ns ∙ ap (λ b. b || is_among ns a) (each ts)
  where
    each : (ts : List CellDecl) → list_any (λ n. same_text n a) (map decl_text ts) ≡ list_any (λ t. same_text t.name a) ts
    each [] = refl
    each (t ∷ ts) = ap (λ b. same_text t.name a || b) (each ts)

-- ---- lists with the same names

-- Two lists with the same names, and as many.
pub record Alike (ns ms : List Text) : Type 0 where
  pub names : (a : Text) → is_among ns a ≡ is_among ms a
  pub count : length ns ≡ length ms

alike-within : (k : ℕ) (ns ms : List Text) (a : Text) → ((x : Text) → is_among ns x ≡ is_among ms x) → free_within k ns a ≡ free_within k ms a
alike-within zero ns ms a h = refl
alike-within (suc k) ns ms a h =
    ap (λ b. if b then free_within k ns (a ++ codes "_") else a) (h a)
    ∙ ap (λ x. if is_among ms a then x else a) (alike-within k ns ms (a ++ codes "_") h)

-- A free name is the same among both.
alike-free : (ns ms : List Text) (a : Text) → Alike ns ms → free_name ns a ≡ free_name ms a
alike-free ns ms a h =
    ap (λ k. free_within (suc k) ns a) h.count ∙ alike-within (suc (length ms)) ns ms a h.names

alike-more : (a b : Text) (ns ms : List Text) → a ≡ b → Alike ns ms → Alike (a ∷ ns) (b ∷ ms)
alike-more a b ns ms e h = record {
  names = λ x. ap (λ c. same_text c x || is_among ns x) e ∙ ap (λ c. same_text b x || c) (h.names x);
  count = ap suc h.count;
}

alike-named : (x : Text) (ts : List TableDecl) (ns ms : List Text) → Alike ns ms → named_trees x ts ns ≡ named_trees x ts ms
alike-named x [] ns ms h = refl
alike-named x (t ∷ ts) ns ms h =
    ap (λ a. decl a t.axes t.cell ∷ named_trees x ts (free_name ns (x ++ t.name) ∷ ns)) (alike-free ns ms (x ++ t.name) h)
    ∙ ap (λ l. decl (free_name ms (x ++ t.name)) t.axes t.cell ∷ l)
    (alike-named x ts (free_name ns (x ++ t.name) ∷ ns) (free_name ms (x ++ t.name) ∷ ms)
    (alike-more (free_name ns (x ++ t.name)) (free_name ms (x ++ t.name)) ns ms (alike-free ns ms (x ++ t.name) h) h))

bools : (a b c : Bool) → (a || (b || c)) ≡ ((b || (a || false)) || c)
bools true true c = refl
bools true false c = refl
bools false true c = refl
bools false false c = refl

-- A name before others stands behind the first of them.
moved : (a : Text) (ns ms : List Text) → Alike (a ∷ (ns ++ ms)) ((ns ++ a ∷ []) ++ ms)
moved a ns ms = record {
  names = λ x. ap (λ c. same_text a x || c) (list_any-append (λ n. same_text n x) ns ms)
      ∙ bools (same_text a x) (is_among ns x) (is_among ms x)
      ∙ ap (λ c. c || is_among ms x) (sym (list_any-append (λ n. same_text n x) ns (a ∷ [])))
      ∙ sym (list_any-append (λ n. same_text n x) (ns ++ a ∷ []) ms);
  count = counted (length (ns ++ ms)) (length ns) (length ms) (length (ns ++ a ∷ [])) (length ((ns ++ a ∷ []) ++ ms))
      (length-append ns ms) (length-append ns (a ∷ [])) (length-append (ns ++ a ∷ []) ms);
}
  where
    counted : (p i j k l : ℕ) → p ≡ i + j → k ≡ i + 1 → l ≡ k + j → suc p ≡ l
    counted p i j k l e f g = omega arith

-- ---- tables with free names

-- One table more with a free name.
pub named_more : (ts : List CellDecl) (i : ℕ) (t u : CellDecl) (ns ms : List CellDecl) (taken : List Text) (w : List TableDecl) → i < length ts →
    t ≡ get_or ts i t → pure_decl u ≡ decl (free_name (map decl_text ns ++ taken) t.name) (map pure_dom t.axes) (pure_dom t.cell) → ms ≡ ns ++ u ∷ [] →
    map pure_decl ns ++ named_trees [] (map pure_decl (drop i ts)) (map decl_text ns ++ taken) ≡ w →
    map pure_decl ms ++ named_trees [] (map pure_decl (drop (i + 1) ts)) (map decl_text ms ++ taken) ≡ w
named_more ts i t u ns ms taken w h is q r p =
    let a : Text = free_name (map decl_text ns ++ taken) t.name in
    let rest : List TableDecl = map pure_decl (drop (i + 1) ts) in
    ap (λ x. map pure_decl x ++ named_trees [] rest (map decl_text x ++ taken)) r
    ∙ ap (λ x. x ++ named_trees [] rest (map decl_text (ns ++ u ∷ []) ++ taken)) (map_push pure_decl ns u)
    ∙ append_assoc (map pure_decl ns) (pure_decl u ∷ []) (named_trees [] rest (map decl_text (ns ++ u ∷ []) ++ taken))
    ∙ ap (λ x. map pure_decl ns ++ pure_decl u ∷ named_trees [] rest (x ++ taken)) (map_push decl_text ns u)
    ∙ ap (λ x. map pure_decl ns ++ pure_decl u ∷ named_trees [] rest ((map decl_text ns ++ x ∷ []) ++ taken)) (ap (λ d. d.name) q)
    ∙ ap (λ x. map pure_decl ns ++ pure_decl u ∷ x) (sym (alike-named [] rest (a ∷ (map decl_text ns ++ taken)) ((map decl_text ns ++ a ∷ []) ++ taken) (moved a (map decl_text ns) taken)))
    ∙ ap (λ x. map pure_decl ns ++ x ∷ named_trees [] rest (a ∷ (map decl_text ns ++ taken))) q
    ∙ ap (λ x. map pure_decl ns ++ named_trees [] (pure_decl x ∷ rest) (map decl_text ns ++ taken)) is
    ∙ sym (at_drop_more (λ s. map pure_decl ns ++ named_trees [] (map pure_decl s) (map decl_text ns ++ taken)) ts i t h)
    ∙ p

-- All tables with free names.
pub named_all : (ts : List CellDecl) (i : ℕ) (ns : List CellDecl) (taken : List Text) (w : List TableDecl) → length ts ≤ i →
    map pure_decl ns ++ named_trees [] (map pure_decl (drop i ts)) (map decl_text ns ++ taken) ≡ w → map pure_decl ns ≡ w
named_all ts i ns taken w h p =
    sym (at_drop_all (λ s. map pure_decl ns ++ named_trees [] (map pure_decl s) (map decl_text ns ++ taken)) ts i h ∙ append-nil (map pure_decl ns)) ∙ p

-- A variable's name in front of the tables' names gives the names of the variable's tables.
pub named_below : (x : Text) (ts us vs : List TableDecl) (taken : List Text) → us ≡ map (below_layer x []) ts → vs ≡ named_trees [] us taken →
    vs ≡ named_trees x ts taken
named_below x ts us vs taken p q = q ∙ ap (λ z. named_trees [] z taken) p ∙ each ts taken
  where
    each : (ts : List TableDecl) (taken : List Text) → named_trees [] (map (below_layer x []) ts) taken ≡ named_trees x ts taken
    each [] taken = refl
    each (t ∷ ts) taken = ap (λ l. decl (free_name taken (x ++ t.name)) t.axes t.cell ∷ l) (each ts (free_name taken (x ++ t.name) ∷ taken))
