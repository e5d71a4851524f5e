-- No rule of comprehensions whose items have an order fires at a tree over views, at a set or at a list.
use Rattle.std.proofs.Common.{◌≡◌, refl, ap, ◌∙◌, ℕ, Bool, true, false, ◌&&◌, if◌then◌else◌, List, [], ◌∷◌, Option, Some, None, option_map}
use Rattle.ess_semantics.specs.Lists.{and_then, or_else}
use Rattle.ess_semantics.specs.Values.{Text}
use Rattle.ess_semantics.specs.Names.{Names}
use Rattle.ess_semantics.specs.NamesAt.{names_behind}
use Rattle.ess_semantics.specs.declared.words.Op1.{Op1}
use Rattle.ess_semantics.specs.declared.words.Op2.{Op2}
use Rattle.ess_semantics.specs.declared.words.Fun.{Fun}
use Rattle.std.specs.Prelude.{ℤ, pos}
use Rattle.ess_semantics.specs.Trees.{Op, unary, binary, word, matrix_literal, Ex, Exs, number_ex, node_ex, comp_ex, no_exs, more_exs, Gens, ex2, fun1}
use Rattle.ess_semantics.specs.Types.{Ty}
use Rattle.ess_semantics.specs.Typing.{type_of}
use Rattle.ess_semantics.specs.ExpressionJudgements.{forgets_order}
use Rattle.ess_rules_laws.specs.SourceRules.{list_of}
use Rattle.ess_rules_laws.specs.AlternativeLookups.{select_each, select_whole_each}
use Rattle.ess_refine_laws.specs.AllRules.{Supply}
use Rattle.ess_open_rules_laws.specs.OpenGenerators.{Opened, at_first_open, put_before}
use Rattle.ess_open_rules_laws.specs.OpenRules.{gives_scalar, is_compound_ty}
use Rattle.ess_ordered_laws.specs.NumberedItems.{ordered_lookup}
use Rattle.ess_ordered_laws.specs.IndexedSources.{indexed_source}
use Rattle.ess_ordered_laws.specs.PickedSources.{picked_source}
use Rattle.ess_ordered_laws.specs.SourcesOfItems.{item_source, item_behind, over_an_item}
use Rattle.ess_ordered_laws.specs.OrderedRules.{OrderedRule, an_item, of_an_item, source_by_indices, source_of_an_item, keeps_order, operand_lookup, over_operand, at_operand, ordered_rewrite}
use Rattle.ess_seen_laws.proofs.ess_bare_laws.Picks.{either-way}
use Rattle.ess_seen_laws.specs.Seen.{Kind, Bound, Counted, so_many, from_to, from_0, subsets, none_below, SetTerm, view, drawn, combined, Seen, Listed, last_item, item_before, number, truth, named, counted, figure, flag, atom, one, two, chosen, folded, of_items, size, within, set_within, compared, Going, at_end, through, through_slots, among, where_holds}
use Rattle.ess_seen_rules_laws.proofs.Sources.{OpensAtSet, opens-at-set, not-indexed, not-an-item}

-- Nothing is looked up.
abbrev NoLookup : Ex → Type 0
NoLookup e = (z : Text) (ys : List Text) → ordered_lookup z ys e ≡ None

-- Nor is there a comprehension over what is picked.
abbrev NoOperand : Ex → Type 0
NoOperand e = NoLookup e × ((s : Supply) (g : Names Ty) → picked_source s g e ≡ None)

list-lookup : (e : Ex) (gs : Gens) → NoLookup (comp_ex e gs)
list-lookup e gs z [] = refl
list-lookup e gs z (y ∷ ys) = refl

item-lookup : (es : Exs) → NoLookup (list_of es)
item-lookup es z [] = refl
item-lookup es z (y ∷ ys) = refl

item-operand : (es : Exs) → NoOperand (list_of es)
item-operand es = (item-lookup es, λ s g. refl)

neither : {A : Type 0} (o p : Option A) → o ≡ None → p ≡ None → or_else o p ≡ None
neither o p a b = ap (λ x. or_else x p) a ∙ b

number-lookup : (i : ℤ) → NoLookup (number_ex i)
number-lookup i z [] = refl
number-lookup i z (y ∷ ys) = refl

number-operand : (i : ℤ) → NoOperand (number_ex i)
number-operand i = (number-lookup i, λ s g. refl)

counted-lookup : {e : Ex} {n : ℕ} → Counted e n → NoLookup e
counted-lookup c z [] = refl
counted-lookup so_many z (y ∷ ys) = refl
counted-lookup (from_to q) z (y ∷ ys) = refl
counted-lookup from_0 z (y ∷ ys) = refl
counted-lookup (subsets t) z (y ∷ ys) = refl
counted-lookup (none_below t) z (y ∷ ys) = refl

counted-comp : {e : Ex} {n : ℕ} → Counted e n → (s : Supply) (g : Names Ty) → picked_source s g e ≡ None
counted-comp so_many s g = refl
counted-comp (from_to q) s g = refl
counted-comp from_0 s g = refl
counted-comp (subsets t) s g = refl
counted-comp (none_below t) s g = refl

counted-operand : {e : Ex} {n : ℕ} → Counted e n → NoOperand e
counted-operand c = (counted-lookup c, counted-comp c)

one-less-lookup : (a : ℕ) → NoLookup (ex2 false Op2.Minus (number_ex (pos 1)) (number_ex (pos a)))
one-less-lookup a z [] = refl
one-less-lookup a z (y ∷ ys) = refl

one-less-operand : (a : ℕ) → NoOperand (ex2 false Op2.Minus (number_ex (pos 1)) (number_ex (pos a)))
one-less-operand a = (one-less-lookup a, λ s g. refl)

module _ (cells : Text → Option (Bool × List ℕ)) (r : Names Bound) where
  seen-lookup : {e : Ex} {m : Bool} → Seen cells r e m → NoLookup e
  seen-lookup f z [] = refl
  seen-lookup number z (y ∷ ys) = refl
  seen-lookup truth z (y ∷ ys) = refl
  seen-lookup (named h k) z (y ∷ ys) = refl
  seen-lookup (figure h i) z (y ∷ ys) = refl
  seen-lookup (flag h i) z (y ∷ ys) = refl
  seen-lookup (atom h p) z (y ∷ ys) = refl
  seen-lookup (one o f) z (y ∷ ys) = refl
  seen-lookup (two o f h) z (y ∷ ys) = refl
  seen-lookup (chosen f) z (y ∷ ys) = refl
  seen-lookup (folded w k f) z (y ∷ ys) = refl
  seen-lookup (counted c) z (y ∷ ys) = counted-lookup c z (y ∷ ys)
  seen-lookup (of_items w l) z (y ∷ ys) = refl
  seen-lookup (size h) z (y ∷ ys) = refl
  seen-lookup (within f h) z (y ∷ ys) = refl
  seen-lookup (set_within h k) z (y ∷ ys) = refl
  seen-lookup (compared o h k) z (y ∷ ys) = refl

  seen-comp : {e : Ex} {m : Bool} → Seen cells r e m → (s : Supply) (g : Names Ty) → picked_source s g e ≡ None
  seen-comp number s g = refl
  seen-comp (counted c) s g = counted-comp c s g
  seen-comp f s g = refl

  seen-operand : {e : Ex} {m : Bool} → Seen cells r e m → NoOperand e
  seen-operand f = (seen-lookup f, seen-comp f)

  set-lookup : {e : Ex} {k : Kind} → SetTerm cells r e k → NoLookup e
  set-lookup (view a b c d) z [] = refl
  set-lookup (view a b c d) z (y ∷ ys) = refl
  set-lookup (drawn h) z [] = refl
  set-lookup (drawn h) z (y ∷ ys) = refl
  set-lookup (combined o h k) z [] = refl
  set-lookup (combined o h k) z (y ∷ ys) = refl

  set-comp : {e : Ex} {k : Kind} → SetTerm cells r e k → (s : Supply) (g : Names Ty) → picked_source s g e ≡ None
  set-comp (view a b c d) s g = refl
  set-comp (drawn h) s g = refl
  set-comp (combined o h k) s g = refl

  set-operand : {e : Ex} {k : Kind} → SetTerm cells r e k → NoOperand e
  set-operand h = (set-lookup h, set-comp h)

  -- The first source of a list is a set.
  list-comp : (e : Ex) {t : Names Bound} {gs : Gens} → Going cells r gs t → (s : Supply) (g : Names Ty) →
      picked_source s g (comp_ex e gs) ≡ None
  list-comp e at_end s g = refl
  list-comp e (through n k) s g = refl
  list-comp e (through_slots c k) s g = refl
  list-comp e (where_holds f k) s g = refl
  list-comp e (among (view a b c d) k) s g = refl
  list-comp e (among (drawn h) k) s g = refl
  list-comp e (among (combined o h i) k) s g = refl

  list-operand : (e : Ex) {t : Names Bound} {gs : Gens} → Going cells r gs t → NoOperand (comp_ex e gs)
  list-operand e {gs = gs} k = (list-lookup e gs, list-comp e k)

module _ (s : Supply) (g : Names Ty) where
  -- No scalar is picked by itself.
  alone : (e : Ex) → NoLookup e → ordered_rewrite s g an_item e ≡ None
  alone e q = ap (λ o. and_then o (λ l. if gives_scalar g e then select_whole_each s.one l e else None)) (q s.third s.parts)

  none-looked : (e t : Ex) → NoOperand t → operand_lookup s g e t ≡ None
  none-looked e t q = neither (ordered_lookup s.third s.parts t) (if keeps_order e then picked_source s g t else None)
      (q.0 s.third s.parts) (either-way (keeps_order e) (picked_source s g t) (q.1 s g))

  operand : (k : ℕ) (e t : Ex) → NoOperand t → over_operand s g k e t ≡ None
  operand k e t q = ap (λ o. and_then o
      (λ l. if gives_scalar g e && is_compound_ty (type_of t g) then select_each s.one k l e else None)) (none-looked e t q)

  -- Nor is one out of one operand, or of the first two.
  of-one : (b : Bool) (op : Op) (x : Ex) → NoOperand x → ordered_rewrite s g of_an_item (node_ex b op (more_exs x no_exs)) ≡ None
  of-one b op x q = neither (at_operand s g 1 (node_ex b op (more_exs x no_exs))) (at_operand s g 2 (node_ex b op (more_exs x no_exs)))
      (operand 1 (node_ex b op (more_exs x no_exs)) x q) refl

  of-more : (b : Bool) (op : Op) (x y : Ex) (es : Exs) → NoOperand x → NoOperand y →
      ordered_rewrite s g of_an_item (node_ex b op (more_exs x (more_exs y es))) ≡ None
  of-more b op x y es q p =
      let e = node_ex b op (more_exs x (more_exs y es)) in
      neither (at_operand s g 1 e) (at_operand s g 2 e) (operand 1 e x q) (operand 2 e y p)

  of-two : (b : Bool) (op : Op) (x y : Ex) → NoOperand x → NoOperand y →
      ordered_rewrite s g of_an_item (node_ex b op (more_exs x (more_exs y no_exs))) ≡ None
  of-two b op x y q p = of-more b op x y no_exs q p

  -- Sources have no indices.
  by-indices : (e : Ex) (gs : Gens) → OpensAtSet (at_first_open gs) → ordered_rewrite s g source_by_indices (comp_ex e gs) ≡ None
  by-indices e gs h = go (at_first_open gs) h
    where
      go : (o : Option Opened) → OpensAtSet o → and_then o
          (λ t. and_then (indexed_source (names_behind t.before g) s.one (comp_ex e t.after)) (put_before t.before)) ≡ None
      go None h = refl
      go (Some t) h = ap (λ o. and_then o (put_before t.before)) (not-indexed s (names_behind t.before g) e t.after h)

  -- Nor are they items.
  no-item : (any : Bool) (e : Ex) (gs : Gens) → OpensAtSet (at_first_open gs) → item_behind s any (comp_ex e gs) ≡ None
  no-item any e gs h = go (at_first_open gs) h
    where
      go : (o : Option Opened) → OpensAtSet o →
          and_then o (λ t. and_then (item_source s any (comp_ex e t.after)) (put_before t.before)) ≡ None
      go None h = refl
      go (Some t) h = ap (λ o. and_then o (put_before t.before)) (not-an-item s g e any t.after h)

  under-word : (b : Bool) (w : Fun) (e : Ex) (gs : Gens) → OpensAtSet (at_first_open gs) → over_an_item s (fun1 b w (comp_ex e gs)) ≡ None
  under-word b w e gs h = either-way (forgets_order (word w)) (option_map (fun1 b w) (item_behind s true (comp_ex e gs)))
      (ap (option_map (fun1 b w)) (no-item true e gs h))

  -- `toInt` has no source.
  of-a-truth : (x : Ex) → over_an_item s (fun1 false Fun.ToInt x) ≡ None
  of-a-truth (comp_ex e gs) = refl
  of-a-truth x = refl

  -- At a list.
  pub no-order-list : (e : Ex) (gs : Gens) → OpensAtSet (at_first_open gs) → (u : OrderedRule) → ordered_rewrite s g u (comp_ex e gs) ≡ None
  no-order-list e gs h an_item = alone (comp_ex e gs) (list-lookup e gs)
  no-order-list e gs h of_an_item = refl
  no-order-list e gs h source_by_indices = by-indices e gs h
  no-order-list e gs h source_of_an_item = no-item false e gs h

  -- Nor is one out of a number of slots.
  counted-operands : {e : Ex} {n : ℕ} → Counted e n → ordered_rewrite s g of_an_item e ≡ None
  counted-operands so_many = refl
  counted-operands (from_to {a = a} {b = b} q) =
      of-two false (binary Op2.Plus) (ex2 false Op2.Minus (number_ex (pos 1)) (number_ex (pos a))) (number_ex (pos b))
      (one-less-operand a) (number-operand (pos b))
  counted-operands (from_0 {b = b}) =
      of-two false (binary Op2.Plus) (number_ex (pos b)) (number_ex (pos 1)) (number-operand (pos b)) (number-operand (pos 1))
  counted-operands (subsets {t = t} c) =
      of-two false (binary Op2.Pow) (number_ex (pos 2)) t (number-operand (pos 2)) (counted-operand c)
  counted-operands (none_below {t = t} c) =
      let es = more_exs t (more_exs (number_ex (pos 0)) no_exs) in of-one false (word Fun.Max) (list_of es) (item-operand es)

  module _ (cells : Text → Option (Bool × List ℕ)) (r : Names Bound) where
    no-operands : {e : Ex} {m : Bool} → Seen cells r e m → ordered_rewrite s g of_an_item e ≡ None
    no-operands number = refl
    no-operands truth = refl
    no-operands (named h k) = refl
    no-operands (figure h i) = refl
    no-operands (flag h i) = refl
    no-operands (atom h p) = refl
    no-operands (one {b = b} {o = o} {x = x} w f) = of-one b (unary o) x (seen-operand cells r f)
    no-operands (two {b = b} {o = o} {x = x} {y = y} w f h) = of-two b (binary o) x y (seen-operand cells r f) (seen-operand cells r h)
    no-operands (chosen {x = x} f) = of-one false (word Fun.ToInt) x (seen-operand cells r f)
    no-operands (folded {m = m} {f = w} {e = x} {gs = gs} v k f) = of-one m (word w) (comp_ex x gs) (list-operand cells r x k)
    no-operands (counted c) = counted-operands c
    no-operands (of_items {m = m} {f = w} {es = es} v l) = of-one m (word w) (list_of es) (item-operand es)
    no-operands (size {s = x} h) = of-one false (unary Op1.Bar) x (set-operand cells r h)
    no-operands (within {a = x} {s = y} f h) = of-two true (binary Op2.Member) x y (seen-operand cells r f) (set-operand cells r h)
    no-operands (set_within {a = x} {s = y} h k) = of-two true (binary Op2.Member) x y (set-operand cells r h) (set-operand cells r k)
    no-operands (compared {o = o} {s = x} {t = y} w h k) = of-two true (binary o) x y (set-operand cells r h) (set-operand cells r k)

    no-source : {e : Ex} {m : Bool} → Seen cells r e m → ordered_rewrite s g source_by_indices e ≡ None
    no-source number = refl
    no-source (counted so_many) = refl
    no-source (counted (from_to q)) = refl
    no-source (counted from_0) = refl
    no-source (counted (subsets t)) = refl
    no-source (counted (none_below t)) = refl
    no-source f = refl

    no-item-source : {e : Ex} {m : Bool} → Seen cells r e m → ordered_rewrite s g source_of_an_item e ≡ None
    no-item-source number = refl
    no-item-source (chosen {x = x} f) = of-a-truth x
    no-item-source (folded {m = m} {f = w} {e = x} {gs = gs} v k f) = under-word m w x gs (opens-at-set cells k)
    no-item-source (counted so_many) = refl
    no-item-source (counted (from_to q)) = refl
    no-item-source (counted from_0) = refl
    no-item-source (counted (subsets t)) = refl
    no-item-source (counted (none_below t)) = refl
    no-item-source f = refl

    -- At a tree over views.
    pub no-order : {e : Ex} {m : Bool} → Seen cells r e m → (u : OrderedRule) → ordered_rewrite s g u e ≡ None
    no-order {e} f an_item = alone e (seen-lookup cells r f)
    no-order f of_an_item = no-operands f
    no-order f source_by_indices = no-source f
    no-order f source_of_an_item = no-item-source f

    -- At a set.
    pub no-order-set : {e : Ex} {k : Kind} → SetTerm cells r e k → (u : OrderedRule) → ordered_rewrite s g u e ≡ None
    no-order-set {e} h an_item = alone e (set-lookup cells r h)
    no-order-set (view a b c d) of_an_item = refl
    no-order-set (view a b c d) source_by_indices = refl
    no-order-set (view a b c d) source_of_an_item = refl
    no-order-set (drawn h) of_an_item = refl
    no-order-set (drawn h) source_by_indices = refl
    no-order-set (drawn h) source_of_an_item = refl
    no-order-set (combined {o = o} {s = x} {t = y} w h k) of_an_item =
        of-two false (binary o) x y (set-operand cells r h) (set-operand cells r k)
    no-order-set (combined w h k) source_by_indices = refl
    no-order-set (combined w h k) source_of_an_item = refl

    -- At a list of items.
    no-order-first : {es : Exs} {m : Bool} → Listed cells r es m → ordered_rewrite s g of_an_item (list_of es) ≡ None
    no-order-first (last_item {e = x} f) = of-one false matrix_literal x (seen-operand cells r f)
    no-order-first (item_before {e = x} f (last_item {e = y} h)) =
        of-two false matrix_literal x y (seen-operand cells r f) (seen-operand cells r h)
    no-order-first (item_before {e = x} f (item_before {e = y} {es = es} h l)) =
        of-more false matrix_literal x y es (seen-operand cells r f) (seen-operand cells r h)

    pub no-order-items : {es : Exs} {m : Bool} → Listed cells r es m → (u : OrderedRule) → ordered_rewrite s g u (list_of es) ≡ None
    no-order-items {es} l an_item = alone (list_of es) (item-lookup es)
    no-order-items l of_an_item = no-order-first l
    no-order-items l source_by_indices = refl
    no-order-items l source_of_an_item = refl
