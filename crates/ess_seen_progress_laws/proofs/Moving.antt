-- In a tree over views nothing abstract is left, or a rule fires at a part of it.
use Rattle.std.proofs.Common.{◌≡◌, refl, ap, ◌∙◌, ◌⊎◌, inl, inr, ℕ, Bool, true, false, if◌then◌else◌, List, [], ◌∷◌, pos, Option, Some, option_map}
use Rattle.ess_semantics.specs.declared.words.Fun.{Fun}
use Rattle.ess_semantics.specs.declared.words.Op1.{Op1}
use Rattle.ess_semantics.specs.declared.words.Op2.{Op2}
use Rattle.ess_semantics.specs.Order.{same_text}
use Rattle.ess_semantics.specs.Values.{Text}
use Rattle.ess_semantics.specs.Names.{Names, look}
use Rattle.ess_semantics.specs.Trees.{unary, binary, word, matrix_literal, both_ends, name_pat, Ex, Exs, number_ex, comp_ex, cell_ex, no_exs, more_exs, Gens, over, from, cond, Dom, bool_dom, int_dom, ex1, ex2, fun1}
use Rattle.ess_semantics.specs.Types.{type_of_dom}
use Rattle.ess_semantics.specs.Refined.{is_refined, are_refined, are_refined_gens}
use Rattle.ess_rules_laws.specs.SlotListings.{slots_dom}
use Rattle.ess_rules_laws.specs.SourceRules.{list_of}
use Rattle.ess_kind_rules_laws.specs.KindRules.{cell_of_an_atom}
use Rattle.ess_open_rules_laws.specs.OpenGenerators.{Opened, with_first, opened_here, at_first_open}
use Rattle.ess_open_rules_laws.specs.OpenRules.{of_kind}
use Rattle.ess_refine_laws.specs.ExtremeRules.{are_none}
use Rattle.ess_flat_laws.specs.Flat.{OneOp, TwoOp}
use Rattle.ess_seen_laws.specs.ess_bare_laws.Lean.{FoldWord}
use Rattle.ess_seen_laws.specs.Seen.{Kind, Bound, over_a_range, over_slots, from_a_set, bound_kind, kind_ty, bound_types, Places, no_place, at_slot, SetTerm, view, drawn, combined, sets_of, Seen, number, truth, named, counted, figure, flag, atom, one, two, chosen, folded, of_items, size, within, set_within, compared, Listed, last_item, item_before, Indices, no_index, one_index, Going, at_end, through, through_slots, among, where_holds, truths, numbers}
use Rattle.ess_seen_progress_laws.specs.MovesOn.{MovesOn, by_kind, NoneDrawn, MovesWithin}
use Rattle.ess_seen_progress_laws.proofs.Refined.{and-true, refined-one, refined-chosen, refined-two, refined-fold, refined-items, refined-count}
use Rattle.ess_seen_progress_laws.proofs.Lifts.{MovesAmong, MovesInGens, MovesInDom, at-root, in-operands, in-indices, in-the-first, in-a-later, in-the-body, in-its-generators, in-its-domain, behind-it, in-the-condition, behind-the-condition, in-the-bounds}
use Rattle.ess_seen_progress_laws.proofs.AtRoots.{compared-moves, sized-moves, member-moves, view-moves, made-moves, nested-moves}

-- One more name that is bound over a range or over slots.
more-undrawn : (r : Names Bound) (a : Text) (b : Bound) → ((k : Kind) → b ≡ from_a_set k → ⊥) → NoneDrawn r → NoneDrawn ((a, b) ∷ r)
more-undrawn r a b n u c k h = go (same_text a c) (u c k) h
  where
    go : (t : Bool) → (look r c ≡ Some (from_a_set k) → ⊥) → (if t then Some b else look r c) ≡ Some (from_a_set k) → ⊥
    go true f h = n k (known h)
      where
        known : Some b ≡ Some (from_a_set k) → b ≡ from_a_set k
        known h = cc
    go false f h = f h

module _ (cells : Text → Option (Bool × List ℕ)) where
  -- What becomes of a tree, of operands, of a domain.
  abbrev Turns : Names Bound → Ex → Type 0
  Turns r e = (is_refined e ≡ true) ⊎ MovesWithin cells r e

  abbrev AllTurn : Names Bound → Exs → Type 0
  AllTurn r es = (are_refined es ≡ true) ⊎ MovesAmong cells r es

  -- Names at which a cell is asked are refined.
  places-refined : {r : Names Bound} {es : Exs} {ks : List ℕ} → Places cells r es ks → are_refined es ≡ true
  places-refined no_place = refl
  places-refined (at_slot h p) = places-refined p

  -- Of one and of more.
  first-turns : {r : Names Bound} (e : Ex) (es : Exs) → Turns r e → AllTurn r es → AllTurn r (more_exs e es)
  first-turns e es (inl h) (inl k) = inl (and-true (is_refined e) (are_refined es) h k)
  first-turns e es (inl h) (inr w) = inr (in-a-later cells e w)
  first-turns e es (inr w) k = inr (in-the-first cells es w)

  -- What becomes of generators with the names t behind them: nothing abstract is left in them, and they draw no member; a rule fires at a
  -- part; the first one runs over a set; or one behind plain generators does.
  data Going-on (r : Names Bound) : Gens → Names Bound → Type 0 where
    plain : {gs : Gens} {t : Names Bound} → are_refined_gens gs ≡ true → NoneDrawn t → Going-on r gs t
    fires : {gs : Gens} {t : Names Bound} → MovesInGens cells r gs → Going-on r gs t
    over_a_set : {a : Text} {s : Ex} {hs : Gens} {t : Names Bound} {k : Kind} → SetTerm cells r s k → Going-on r (from (name_pat a) s hs) t
    behind : {gs : Gens} {t : Names Bound} (o : Opened) → at_first_open gs ≡ Some o → are_none o.before ≡ false → Going-on r gs t

  -- A domain that leaves refined generators refined.
  abbrev Refines : Text → Dom → Type 0
  Refines a d = (gs : Gens) → are_refined_gens gs ≡ true → are_refined_gens (over (name_pat a) d gs) ≡ true

  -- A plain generator before others.
  over-goes : {r t : Names Bound} {gs : Gens} (a : Text) (d : Dom) (b : Bound) → type_of_dom d ≡ kind_ty (bound_kind b) →
      at_first_open (over (name_pat a) d gs) ≡ option_map (with_first (over (name_pat a) d)) (at_first_open gs) →
      Refines a d ⊎ MovesInDom cells r d → Going-on ((a, b) ∷ r) gs t → Going-on r (over (name_pat a) d gs) t
  over-goes {gs = gs} a d b i o (inl h) (plain k n) = plain (h gs k) n
  over-goes a d b i o (inl h) (fires w) = fires (behind-it cells a d b i w)
  over-goes a d b i o (inl h) (over_a_set {a = c} {s = s} {hs = hs} v) =
      behind (with_first (over (name_pat a) d) (opened_here (from (name_pat c) s hs))) o refl
  over-goes a d b i o (inl h) (behind p q n) =
      behind (with_first (over (name_pat a) d) p) (o ∙ ap (option_map (with_first (over (name_pat a) d))) q) refl
  over-goes {gs = gs} a d b i o (inr w) k = fires (in-its-domain cells a gs w)

  -- A condition before others.
  condition-goes : {r t : Names Bound} {gs : Gens} (c : Ex) → Turns r c → Going-on r gs t → Going-on r (cond c gs) t
  condition-goes {gs = gs} c (inl h) (plain k n) = plain (and-true (is_refined c) (are_refined_gens gs) h k) n
  condition-goes c (inl h) (fires w) = fires (behind-the-condition cells c w)
  condition-goes c (inl h) (over_a_set {a = a} {s = s} {hs = hs} v) =
      behind (with_first (cond c) (opened_here (from (name_pat a) s hs))) refl refl
  condition-goes c (inl h) (behind p q n) = behind (with_first (cond c) p) (ap (option_map (with_first (cond c))) q) refl
  condition-goes {gs = gs} c (inr w) k = fires (in-the-condition cells gs w)

  -- A fold over a set.
  set-moves : {m : Bool} {f : Fun} {r : Names Bound} {s : Ex} {k : Kind} → NoneDrawn r → FoldWord m f → SetTerm cells r s k →
      (a : Text) (e : Ex) (hs : Gens) → MovesOn (bound_types r) (fun1 m f (comp_ex e (from (name_pat a) s hs)))
  set-moves {r = r} u w (view n f h p) a e hs = view-moves cells w h (bound_types r) a e hs
  set-moves u w (drawn {a = c} {k = k} h) a e hs = absurd (u c (sets_of k) h)
  set-moves u w (combined c v x) a e hs = made-moves cells w c v x a e hs

  -- What becomes of a fold, by what becomes of its generators and of its body.
  fold-turns : {m : Bool} {f : Fun} {r t : Names Bound} {e : Ex} {gs : Gens} → NoneDrawn r → FoldWord m f → Going cells r gs t →
      Seen cells t e m → Going-on r gs t → (NoneDrawn t → Turns t e) → Turns r (fun1 m f (comp_ex e gs))
  fold-turns {m = m} {f = f} {r = r} {t = t} {e = e} {gs = gs} u w g s (plain h n) k = body (k n)
    where
      body : Turns t e → Turns r (fun1 m f (comp_ex e gs))
      body (inl i) = inl (refined-fold e gs w i h)
      body (inr x) = inr (in-operands cells m (word f) (in-the-first cells no_exs (in-the-body cells g x)))
  fold-turns {m = m} {f = f} {e = e} u w g s (fires x) k =
      inr (in-operands cells m (word f) (in-the-first cells no_exs (in-its-generators cells e x)))
  fold-turns {e = e} u w g s (over_a_set {a = a} {hs = hs} v) k = inr (at-root cells (folded w g s) (set-moves u w v a e hs))
  fold-turns {r = r} {e = e} {gs = gs} u w g s (behind o q n) k =
      inr (at-root cells (folded w g s) (nested-moves cells w (bound_types r) e gs o q n))

  -- Nothing is drawn where a name is bound over a range, or over slots.
  range-undrawn : (r : Names Bound) (a : Text) (m : Bool) → NoneDrawn r → NoneDrawn ((a, over_a_range m) ∷ r)
  range-undrawn r a m u = more-undrawn r a (over_a_range m) (λ k h. cc) u

  slots-undrawn : (r : Names Bound) (a : Text) (n : ℕ) → NoneDrawn r → NoneDrawn ((a, over_slots n) ∷ r)
  slots-undrawn r a n u = more-undrawn r a (over_slots n) (λ k h. cc) u

  -- Behind operands.
  one-turns : {r : Names Bound} {b m : Bool} {o : Op1} {x : Ex} → OneOp b o m → Turns r x → Turns r (ex1 b o x)
  one-turns {x = x} w (inl h) = inl (refined-one x w h)
  one-turns {b = b} {o = o} w (inr v) = inr (in-operands cells b (unary o) (in-the-first cells no_exs v))

  two-turn : {r : Names Bound} {b m k : Bool} {o : Op2} {x y : Ex} → TwoOp b o m k → Turns r x → Turns r y → Turns r (ex2 b o x y)
  two-turn {x = x} {y = y} w (inl h) (inl k) = inl (refined-two x y w h k)
  two-turn {b = b} {o = o} {x = x} w (inl h) (inr v) =
      inr (in-operands cells b (binary o) (in-a-later cells x (in-the-first cells no_exs v)))
  two-turn {b = b} {o = o} {y = y} w (inr v) k = inr (in-operands cells b (binary o) (in-the-first cells (more_exs y no_exs) v))

  chosen-turns : {r : Names Bound} {x : Ex} → Turns r x → Turns r (fun1 false Fun.ToInt x)
  chosen-turns {x = x} (inl h) = inl (refined-chosen x h)
  chosen-turns (inr v) = inr (in-operands cells false (word Fun.ToInt) (in-the-first cells no_exs v))

  items-turn : {r : Names Bound} {m : Bool} {f : Fun} {es : Exs} → FoldWord m f → AllTurn r es → Turns r (fun1 m f (list_of es))
  items-turn {es = es} w (inl h) = inl (refined-items es w h)
  items-turn {m = m} {f = f} w (inr v) =
      inr (in-operands cells m (word f) (in-the-first cells no_exs (in-operands cells false matrix_literal v)))

  cell-turns : {r : Names Bound} (n : Text) {es : Exs} → AllTurn r es → Turns r (cell_ex true n es)
  cell-turns n (inl h) = inl h
  cell-turns n (inr v) = inr (in-indices cells true n v)

  bounds-turn : {r : Names Bound} {es : Exs} (a : Text) → AllTurn r es →
      Refines a (int_dom (both_ends ∷ []) es) ⊎ MovesInDom cells r (int_dom (both_ends ∷ []) es)
  bounds-turn {es = es} a (inl h) = inl (λ gs k. and-true (are_refined es) (are_refined_gens gs) h k)
  bounds-turn a (inr v) = inr (in-the-bounds cells v)

  mutual
    moves : {r : Names Bound} {e : Ex} {m : Bool} → NoneDrawn r → Seen cells r e m → Turns r e
    moves u number = inl refl
    moves u truth = inl refl
    moves u (named p k) = inl refl
    moves u (counted c) = inl (refined-count c)
    moves u (figure p i) = inl (places-refined i)
    moves u (flag {n = n} p i) = cell-turns n (indices u i)
    moves u (atom k p) = inr (at-root cells (atom k p) (by_kind (of_kind cell_of_an_atom) refl (λ s. refl)))
    moves u (one w f) = one-turns w (moves u f)
    moves u (two w f g) = two-turn w (moves u f) (moves u g)
    moves u (chosen f) = chosen-turns (moves u f)
    moves u (folded w g f) = fold-turns u w g f (gens u g) (λ n. moves n f)
    moves u (of_items w l) = items-turn w (items u l)
    moves u (size v) = inr (at-root cells (size v) (sized-moves cells v))
    moves {r = r} u (within {a = a} {s = s} f v) = inr (at-root cells (within f v) (member-moves cells (bound_types r) a s))
    moves {r = r} u (set_within {a = a} {s = s} v w) = inr (at-root cells (set_within v w) (member-moves cells (bound_types r) a s))
    moves u (compared c v w) = inr (at-root cells (compared c v w) (compared-moves cells c v w))

    items : {r : Names Bound} {es : Exs} {m : Bool} → NoneDrawn r → Listed cells r es m → AllTurn r es
    items u (last_item {e = e} f) = first-turns e no_exs (moves u f) (inl refl)
    items u (item_before {e = e} {es = es} f l) = first-turns e es (moves u f) (items u l)

    indices : {r : Names Bound} {es : Exs} {k : ℕ} → NoneDrawn r → Indices cells r es k → AllTurn r es
    indices u no_index = inl refl
    indices u (one_index {e = e} {es = es} f i) = first-turns e es (moves u f) (indices u i)

    gens : {r t : Names Bound} {gs : Gens} → NoneDrawn r → Going cells r gs t → Going-on r gs t
    gens u at_end = plain refl u
    gens {r = r} u (through {a = a} truths g) =
        over-goes a bool_dom (over_a_range true) refl refl (inl (λ gs k. k)) (gens (range-undrawn r a true u) g)
    gens {r = r} u (through {a = a} (numbers {a = x} {b = y} f h) g) =
        over-goes a (int_dom (both_ends ∷ []) (more_exs x (more_exs y no_exs))) (over_a_range false) refl refl
        (bounds-turn a (first-turns x (more_exs y no_exs) (moves u f) (first-turns y no_exs (moves u h) (inl refl))))
        (gens (range-undrawn r a false u) g)
    gens {r = r} u (through_slots {k = k} {a = a} {e = e} c g) =
        over-goes a (slots_dom e) (over_slots k) refl refl
        (inl (λ gs h. and-true (are_refined (more_exs (number_ex (pos 1)) (more_exs e no_exs))) (are_refined_gens gs)
        (and-true (is_refined e) true (refined-count c) refl) h)) (gens (slots-undrawn r a k u) g)
    gens u (among v g) = over_a_set v
    gens u (where_holds {c = c} f g) = condition-goes c (moves u f) (gens u g)

-- So it is of each tree.
pub seen-moves : (cells : Text → Option (Bool × List ℕ)) {r : Names Bound} {e : Ex} {m : Bool} → NoneDrawn r → Seen cells r e m →
    (is_refined e ≡ true) ⊎ MovesWithin cells r e
seen-moves cells u f = moves cells u f
