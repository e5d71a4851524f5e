-- What is asked of how often the members occur of a multiset that a view stands for.
use Rattle.std.proofs.Common.{◌≡◌, refl, sym, ap, ◌∙◌, ℕ, ◌<◌, Bool, true, false, ◌&&◌, not, List, [], ◌∷◌, ℤ, pos, Some, int_le, le_refl}
use Rattle.std.specs.List.{list_all}
use Rattle.ess_semantics.specs.declared.words.Fun.{Fun}
use Rattle.ess_semantics.specs.declared.words.Key.{Key}
use Rattle.ess_semantics.specs.Values.{Text, Value, truth, items_of}
use Rattle.ess_semantics.specs.Order.{same_text}
use Rattle.ess_semantics.specs.Collections.{count, set_of, sorted_once}
use Rattle.ess_semantics.specs.Trees.{Mark, flag, valued, word, Ex, Exs, no_exs, more_exs, name_ex, fun1}
use Rattle.ess_semantics.specs.Domains.{Attribute, numbered}
use Rattle.ess_semantics.specs.Attributes.{each_number_holds, occurs_holds}
use Rattle.ess_semantics.specs.Operators.{as_truth, value_of_node}
use Rattle.ess_semantics.specs.Meaning.{Env, meaning, meanings}
use Rattle.ess_semantics.proofs.Connectives.{and-means}
use Rattle.ess_semantics.proofs.Orders.{to_list-of_list}
use Rattle.ess_semantics.proofs.Sorting.{all-sorted_once}
use Rattle.ess_repr_laws.specs.MultisetParts.{freq_ex, occurs_key_ex, occurs_ex}
use Rattle.ess_repr_laws.specs.StructureParts.{Terms, le_ex}
use Rattle.ess_repr_laws.specs.StructureMeaning.{Number, Bound, M, Attributes, asks_no_times, is_times_key}
use Rattle.ess_repr_laws.specs.ViewParts.{every_item_ex}
use Rattle.ess_repr_laws.proofs.CanonicalPlaces.{AllOf}
use Rattle.ess_repr_laws.proofs.StructureCounts.{valued-first, flagged-first, valued-some, flagged-some}
use Rattle.ess_repr_laws.proofs.StructureNumbers.{le-means}
use Rattle.ess_repr_laws.proofs.StructureRows.{looked}
use Rattle.ess_repr_laws.proofs.ViewsOfCells.{Stands, every-item-means}

module _ (env0 : Env) (q : ℕ → Text) (q-apart : (m l : ℕ) → l < m → same_text (q m) (q l) ≡ false) (terms : Terms) where
  abbrev N : Bound env0 q q-apart → Env
  N = M env0 q q-apart

  -- What is asked is true or false.
  pub occurs-settled : (l : ℕ) (e : Ex) (ms : List Mark) (ns : Exs) (env : Env) →
      meaning (occurs_ex q l e ms ns) env ≡ Some (truth (as_truth (meaning (occurs_ex q l e ms ns) env)))
  occurs-settled l e [] ns env = refl
  occurs-settled l e (flag k ∷ ms) ns env = occurs-settled l e ms ns env
  occurs-settled l e (valued k ∷ ms) no_exs env = refl
  occurs-settled l e (valued k ∷ ms) (more_exs n ns) env = refl

  module _ (l : ℕ) (bs : Bound env0 q q-apart) (e : Ex) (v : Value) where
    abbrev xs : List Value
    xs = items_of v

    -- A test of each member.
    each-member : Stands env0 q q-apart l e v bs → (test : Ex) (f : Value → Bool) →
        ((x : Value) → meaning test (N ((l, x) ∷ bs)) ≡ Some (truth (f x))) →
        meaning (every_item_ex q l (fun1 false Fun.ToSet e) test) (N bs) ≡ Some (truth (list_all f xs))
    each-member st test f h =
        every-item-means env0 q q-apart l (fun1 false Fun.ToSet e) bs (set_of xs) test f
        (ap (λ o. value_of_node (word Fun.ToSet) (o ∷ [])) (st [] tt)) (each (items_of (set_of xs)))
        ∙ ap (λ ys. Some (truth (list_all f ys))) (to_list-of_list (sorted_once xs)) ∙ ap (λ b. Some (truth b)) (all-sorted_once f xs)
      where
        each : (ys : List Value) → AllOf ys (λ x. meaning test (N ((l, x) ∷ bs)) ≡ Some (truth (f x)))
        each [] = tt
        each (y ∷ ys) = (h y, each ys)

    -- How often a member occurs.
    freq-means : Stands env0 q q-apart l e v bs → (x : Value) → Number (freq_ex q l e) (N ((l, x) ∷ bs)) (pos (count xs x))
    freq-means st x =
        ap (λ o. value_of_node (word Fun.Freq) (o ∷ meaning (name_ex (q l)) (N ((l, x) ∷ bs)) ∷ [])) (st ((l, x) ∷ []) (le_refl l, tt))
        ∙ ap (λ o. value_of_node (word Fun.Freq) (Some v ∷ o ∷ [])) (looked env0 q q-apart l x bs [] tt)

    -- One attribute.
    occurs-key-means : (k : Key) (n : Ex) (z : ℤ) → ((cs : Bound env0 q q-apart) → Number n (N cs) z) →
        (is_times_key k ≡ true → Stands env0 q q-apart l e v bs) →
        meaning (occurs_key_ex q l e k n) (N bs) ≡ Some (truth (occurs_holds k z xs))
    occurs-key-means Key.MinOccur n z h st =
        each-member (st refl) (le_ex n (freq_ex q l e)) (λ x. int_le z (pos (count xs x)))
        (λ x. le-means (N ((l, x) ∷ bs)) n (freq_ex q l e) z (pos (count xs x)) (h ((l, x) ∷ bs)) (freq-means (st refl) x))
    occurs-key-means Key.MaxOccur n z h st =
        each-member (st refl) (le_ex (freq_ex q l e) n) (λ x. int_le (pos (count xs x)) z)
        (λ x. le-means (N ((l, x) ∷ bs)) (freq_ex q l e) n (pos (count xs x)) z (freq-means (st refl) x) (h ((l, x) ∷ bs)))
    occurs-key-means _ n z h st = refl

    -- All attributes.
    pub occurs-means : (ms : List Mark) (ns : Exs) (ks : List Attribute) → Attributes env0 q q-apart terms ms ns ks →
        (asks_no_times ks ≡ false → Stands env0 q q-apart l e v bs) →
        meaning (occurs_ex q l e ms ns) (N bs) ≡ Some (truth (each_number_holds ks (λ k z. occurs_holds k z xs)))
    occurs-means [] no_exs [] at st = refl
    occurs-means [] no_exs (a ∷ ks) at st = let x = at bs in let y = x.1 in cc
    occurs-means [] (more_exs n ns) ks at st = let x = at bs in let y = x.1 in cc
    occurs-means (flag k ∷ ms) ns [] at st = let x = at bs in absurd (flagged-some k ms (meanings ns (N bs)) x.1)
    occurs-means (flag k ∷ ms) ns (a ∷ ks) at st =
        let x = at bs in
        let f = flagged-first k ms (meanings ns (N bs)) a ks x.1 in
        occurs-means ms ns ks (λ cs. let y = at cs in let g = flagged-first k ms (meanings ns (N cs)) a ks y.1 in (y.0, g.1))
        (λ h. st (ap (λ a. asks_no_times (a ∷ ks)) f.0 ∙ h))
        ∙ ap (λ a. Some (truth (each_number_holds (a ∷ ks) (λ k z. occurs_holds k z xs)))) (sym f.0)
    occurs-means (valued k ∷ ms) no_exs ks at st = let x = at bs in let y = x.1 in cc
    occurs-means (valued k ∷ ms) (more_exs n ns) [] at st = let x = at bs in absurd
        (valued-some k ms (meaning n (N bs)) (meanings ns (N bs)) x.1)
    occurs-means (valued k ∷ ms) (more_exs n ns) (a ∷ ks) at st =
        let x = at bs in
        let f = valued-first k ms (meaning n (N bs)) (meanings ns (N bs)) a ks x.1 in
        and-means (N bs) (occurs_key_ex q l e k n) (occurs_ex q l e ms ns) (occurs_holds k f.0 xs)
        (each_number_holds ks (λ k z. occurs_holds k z xs))
        (occurs-key-means k n f.0 (λ cs. let y = at cs in let g = valued-first k ms (meaning n (N cs)) (meanings ns (N cs)) a ks y.1 in
        y.0.0 f.0 (g.1 ∙ ap Some (same-number k g.0 f.0 (sym g.2 ∙ f.2))))
        (λ h. st (ap (λ a. asks_no_times (a ∷ ks)) f.2 ∙ ap (λ b. not b && asks_no_times ks) h)))
        (occurs-means ms ns ks (λ cs. let y = at cs in let g = valued-first k ms (meaning n (N cs)) (meanings ns (N cs)) a ks y.1 in
        (y.0.1, g.3))
        (λ h. st (ap (λ a. asks_no_times (a ∷ ks)) f.2 ∙ ap (λ b. not (is_times_key k) && b) h ∙ none (not (is_times_key k)))))
        ∙ ap (λ a. Some (truth (each_number_holds (a ∷ ks) (λ k z. occurs_holds k z xs)))) (sym f.2)
      where
        same-number : (k : Key) (x y : ℤ) → numbered k x ≡ numbered k y → x ≡ y
        same-number k x y e = cc

        none : (b : Bool) → b && false ≡ false
        none true = refl
        none false = refl
