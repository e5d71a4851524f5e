-- Lean trees over declared tables, whose indices are numbers and whose bound names are something, are as models have them, and their kinds
-- are those of their marks.
use Rattle.std.proofs.Common.{◌≡◌, refl, ap, ◌∙◌, subst, ℕ, zero, suc, Bool, true, false, ◌&&◌, ◌||◌, not, if◌then◌else◌, List, [], ◌∷◌, length, ℤ, nat_eq, Option, Some, option_map, arith}
use Rattle.std.specs.List.{list_all}
use Rattle.std.proofs.lemmas.Bool.Decides.{nat_tests}
use Rattle.ess_semantics.specs.declared.words.Op2.{Op2}
use Rattle.ess_semantics.specs.declared.words.Fun.{Fun}
use Rattle.ess_semantics.specs.Lists.{and_then}
use Rattle.ess_semantics.specs.Values.{Text, a_matrix}
use Rattle.ess_semantics.specs.Order.{same_text}
use Rattle.ess_semantics.specs.Names.{Names, look}
use Rattle.ess_semantics.specs.Trees.{unary, binary, word, matrix_literal, name_pat, Ex, Exs, name_ex, comp_ex, cell_ex, no_exs, more_exs, Gens, no_gens, over, cond, bool_dom, int_dom, ex2, fun1}
use Rattle.ess_semantics.specs.Types.{Ty, bool_ty, int_ty, compound2, join, join_all}
use Rattle.ess_semantics.specs.OperatorTypes.{type_of_list}
use Rattle.ess_semantics.specs.DeclaredTables.{TableDecl}
use Rattle.ess_semantics.specs.Meaning.{is_bool_dom}
use Rattle.ess_semantics.specs.ModelMeaning.{broken, is_nothing, some_nothing, is_int_kind, cell_kind, kinded_cell, kinded_name, as_bound, with_gen, declaration_of, kinded, kinded_all, kinded_under, bounds_of}
use Rattle.ess_semantics.proofs.Tests.{not-true, and-both}
use Rattle.ess_semantics.proofs.Texts.{same_text-equal}
use Rattle.ess_bare_written_laws.specs.Laws.{AreDeclared}
use Rattle.ess_bare_written_laws.proofs.KindedNodes.{on_one, on_two, list_kind, both-there, one-there, one-kinded, two-kinded, order-kinded, fold-kinded, alone-kinded, items-kinded, kinds_of, list-kinded}
use Rattle.ess_bare_laws.specs.Lean.{as_number, Lean, a_number, a_truth, a_name, a_cell, by_one, by_two, by_power, by_truth, by_fold, by_items, by_greatest, by_order, Leans, last_lean, more_leans, Terms, no_terms, more_terms, Row, listed, alone, Ranging, behind_all, over_truths, over_numbers, under}

-- ---- indices

-- The kinds of so many numbers.
abbrev ints : ℕ → List Ty
ints zero = []
ints (suc k) = int_ty ∷ ints k

ints-long : (k : ℕ) → length (ints k) ≡ k
ints-long zero = refl
ints-long (suc k) = ap suc (ints-long k)

itself-equal : (n : ℕ) → nat_eq n n ≡ true
itself-equal n = grind (arith, nat_tests)

ints-whole : (k : ℕ) → list_all is_int_kind (ints k) ≡ true
ints-whole zero = refl
ints-whole (suc k) = ints-whole k

ints-fit : (k : ℕ) → nat_eq (length (ints k)) k && list_all is_int_kind (ints k) ≡ true
ints-fit k = and-both (nat_eq (length (ints k)) k) (list_all is_int_kind (ints k)) (ap (λ n. nat_eq n k) (ints-long k) ∙ itself-equal k)
    (ints-whole k)

-- ---- trees

-- Whether the name is something.
abbrev pub is_something : Text → Bool
is_something a = not (is_nothing (name_ex a))

-- Names with their marks beside their types.
pub data TypesOf : Names Bool → Names Ty → Type 0 where
  no_types : TypesOf [] []
  more_types : {v : Names Bool} {g : Names Ty} {a : Text} {m : Bool} → is_something a ≡ true → TypesOf v g →
      TypesOf ((a, m) ∷ v) ((a, cell_kind m) ∷ g)

kind-at : {v : Names Bool} {g : Names Ty} → TypesOf v g → (a : Text) (m : Bool) → look v a ≡ Some m →
    (look g a ≡ Some (cell_kind m)) × (is_nothing (name_ex a) ≡ false)
kind-at no_types a m q = cc
kind-at (more_types {v = v} {g = g} {a = b} {m = n} w s) a m q = go (same_text b a) refl q (kind-at s a m)
  where
    go : (c : Bool) → same_text b a ≡ c → (if c then Some n else look v a) ≡ Some m →
        (look v a ≡ Some m → (look g a ≡ Some (cell_kind m)) × (is_nothing (name_ex a) ≡ false)) →
        (look ((b, cell_kind n) ∷ g) a ≡ Some (cell_kind m)) × (is_nothing (name_ex a) ≡ false)
    go true e q f = let p : n ≡ m = cc in (
      ap (λ c. if c then Some (cell_kind n) else look g a) e ∙ ap (λ x. Some (cell_kind x)) p,
      subst (λ x. is_nothing (name_ex x) ≡ false) (same_text-equal b a e) (not-true (is_nothing (name_ex b)) w),
    )
    go false e q f = let r = f q in (ap (λ c. if c then Some (cell_kind n) else look g a) e ∙ r.0, r.1)

module _ (cells : Text → Option (Bool × ℕ)) (ok : ℤ → Bool) (ds : List TableDecl) (declared : AreDeclared ds cells) where
  abbrev T : Names Bool → Ex → Bool → Type 0
  T = Lean cells ok is_something true

  something : {v : Names Bool} {e : Ex} {m : Bool} → T v e m → (g : Names Ty) → TypesOf v g → is_nothing e ≡ false
  something (a_number q) g h = refl
  something a_truth g h = refl
  something (a_name {a = a} {m = m} q) g h = (kind-at h a m q).1
  something (a_cell q l) g h = refl
  something (by_one w f) g h = refl
  something (by_two w f k) g h = refl
  something (by_power f k) g h = refl
  something (by_truth f) g h = refl
  something (by_fold w s f) g h = refl
  something (by_items w l) g h = refl
  something (by_greatest f k) g h = refl
  something (by_order w f k) g h = refl

  something-row : {v : Names Bool} {e : Ex} {m : Bool} → Row cells ok is_something true v e m → is_nothing e ≡ false
  something-row (listed s f) = refl
  something-row (alone f) = refl

  -- So of items: their kinds agree, and each is something.
  joined : {v : Names Bool} {es : Exs} {m : Bool} → Leans cells ok is_something true v es m →
      join_all (kinds_of es m) ≡ Some (cell_kind m)
  joined (last_lean {m = true} f) = refl
  joined (last_lean {m = false} f) = refl
  joined (more_leans {m = true} f l) = ap (λ o. and_then o (join bool_ty)) (joined l)
  joined (more_leans {m = false} f l) = ap (λ o. and_then o (join int_ty)) (joined l)

  list-typed : {v : Names Bool} {es : Exs} {m : Bool} → Leans cells ok is_something true v es m →
      type_of_list (kinds_of es m) ≡ Some (list_kind m)
  list-typed (last_lean f) = ap (option_map (compound2 a_matrix int_ty)) (joined (last_lean f))
  list-typed (more_leans f l) = ap (option_map (compound2 a_matrix int_ty)) (joined (more_leans f l))

  somethings : {v : Names Bool} {es : Exs} {m : Bool} → Leans cells ok is_something true v es m → (g : Names Ty) → TypesOf v g →
      some_nothing es ≡ false
  somethings (last_lean f) g h = ap (λ b. b || false) (something f g h)
  somethings (more_leans {es = es} f l) g h = ap (λ b. b || some_nothing es) (something f g h) ∙ somethings l g h

  cell-kinded : (n : Text) (es : Exs) (b : Bool) (k : ℕ) → cells n ≡ Some (b, k) →
      kinded_cell n es (ints k) (declaration_of ds n) ≡ (cell_ex b n es, cell_kind b)
  cell-kinded n es b k q =
      let d = declared n b k q in
      ap (kinded_cell n es (ints k)) d.found
      ∙ ap (λ j. if nat_eq (length (ints k)) j && list_all is_int_kind (ints k)
      then (cell_ex (is_bool_dom d.line.cell) n es, cell_kind (is_bool_dom d.line.cell))
      else broken (cell_kind (is_bool_dom d.line.cell))) d.axes
      ∙ ap (λ c. if c then (cell_ex (is_bool_dom d.line.cell) n es, cell_kind (is_bool_dom d.line.cell))
      else broken (cell_kind (is_bool_dom d.line.cell))) (ints-fit k)
      ∙ ap (λ c. (cell_ex c n es, cell_kind c)) d.mark

  mutual
    pub kinded-lean : {v : Names Bool} {e : Ex} {m : Bool} → T v e m → (g : Names Ty) → TypesOf v g → kinded ds e g ≡ (e, cell_kind m)
    kinded-lean (a_number q) g h = refl
    kinded-lean a_truth g h = refl
    kinded-lean (a_name {a = a} {m = m} q) g h = ap (kinded_name a) (kind-at h a m q).0
    kinded-lean (a_cell {b = b} {n = n} {k = k} {es = es} q l) g h =
        ap (λ ks. kinded_cell n ks.0 ks.1 (declaration_of ds n)) (kinded-terms l g h) ∙ cell-kinded n es b k q
    kinded-lean (by_one {o = o} {x = x} w f) g h = ap (on_one (unary o)) (kinded-lean f g h) ∙ one-kinded w x (something f g h)
    kinded-lean (by_two {m = i} {o = o} {x = x} {y = y} w f k) g h =
        ap (λ c. on_two (binary o) c (kinded ds y g)) (kinded-lean f g h)
        ∙ ap (on_two (binary o) (x, cell_kind i)) (kinded-lean k g h) ∙ two-kinded w x y (something f g h) (something k g h)
    kinded-lean (by_power {x = x} {y = y} f k) g h =
        ap (λ c. on_two (binary Op2.Pow) c (kinded ds y g)) (kinded-lean f g h)
        ∙ ap (on_two (binary Op2.Pow) (x, int_ty)) (kinded-lean k g h)
        ∙ both-there (ex2 false Op2.Pow x y, int_ty) int_ty x y (something f g h) (something k g h)
    kinded-lean (by_truth {x = x} f) g h =
        ap (on_one (word Fun.ToInt)) (kinded-lean f g h)
        ∙ one-there (fun1 false Fun.ToInt x, int_ty) int_ty x (something f g h)
    kinded-lean (by_fold {f = p} {e = e} {gs = gs} w s f) g h =
        ap (on_one (word p)) (kinded-list s g h e _ (λ g' h'. kinded-lean f g' h')) ∙ fold-kinded w e gs
    kinded-lean (by_items {b = b} {f = p} {es = es} w l) g h =
        ap (on_one (word p)) (list-kinded es b (kinded_all ds es g) (kinded-leans l g h) (list-typed l) (somethings l g h))
        ∙ items-kinded w es
    kinded-lean (by_greatest {x = x} {y = y} f k) g h =
        ap (on_one (word Fun.Max))
        (list-kinded (more_exs x (more_exs y no_exs)) false (kinded_all ds (more_exs x (more_exs y no_exs)) g)
        (ap (λ c. (more_exs c.0 (kinded_all ds (more_exs y no_exs) g).0, c.1 ∷ (kinded_all ds (more_exs y no_exs) g).1)) (kinded-lean f g h)
        ∙ ap (λ c. (more_exs x (more_exs c.0 no_exs), int_ty ∷ c.1 ∷ [])) (kinded-lean k g h))
        (list-typed (more_leans f (last_lean k))) (somethings (more_leans f (last_lean k)) g h))
    kinded-lean (by_order {m = i} {o = o} {x = x} {y = y} w f k) g h =
        ap (λ c. on_two (binary o) c (kinded ds y g)) (kinded-row f g h)
        ∙ ap (on_two (binary o) (x, list_kind i)) (kinded-row k g h) ∙ order-kinded w i x y (something-row f) (something-row k)

    kinded-leans : {v : Names Bool} {es : Exs} {m : Bool} → Leans cells ok is_something true v es m → (g : Names Ty) → TypesOf v g →
        kinded_all ds es g ≡ (es, kinds_of es m)
    kinded-leans (last_lean f) g h = ap (λ c. (more_exs c.0 no_exs, c.1 ∷ [])) (kinded-lean f g h)
    kinded-leans (more_leans {m = m} {e = e} {es = es} f l) g h =
        ap (λ c. (more_exs c.0 (kinded_all ds es g).0, c.1 ∷ (kinded_all ds es g).1)) (kinded-lean f g h)
        ∙ ap (λ ks. (more_exs e ks.0, cell_kind m ∷ ks.1)) (kinded-leans l g h)

    kinded-terms : {v : Names Bool} {es : Exs} {k : ℕ} → Terms cells ok is_something true true v es k → (g : Names Ty) → TypesOf v g →
        kinded_all ds es g ≡ (es, ints k)
    kinded-terms no_terms g h = refl
    kinded-terms (more_terms {e = e} {es = es} as_number f l) g h =
        ap (λ c. (more_exs c.0 (kinded_all ds es g).0, c.1 ∷ (kinded_all ds es g).1)) (kinded-lean f g h)
        ∙ ap (λ ks. (more_exs e ks.0, int_ty ∷ ks.1)) (kinded-terms l g h)

    kinded-bounds : {v : Names Bool} {es : Exs} {k : ℕ} → Terms cells ok is_something true true v es k → (g : Names Ty) → TypesOf v g →
        bounds_of ds es g ≡ es
    kinded-bounds no_terms g h = refl
    kinded-bounds (more_terms {e = e} {es = es} as_number f l) g h =
        ap (λ c. more_exs (as_bound c) (bounds_of ds es g)) (kinded-lean f g h) ∙ ap (more_exs e) (kinded-bounds l g h)

    kinded-row : {v : Names Bool} {e : Ex} {m : Bool} → Row cells ok is_something true v e m → (g : Names Ty) → TypesOf v g →
        kinded ds e g ≡ (e, list_kind m)
    kinded-row (listed {e = e} s f) g h = kinded-list s g h e _ (λ g' h'. kinded-lean f g' h')
    kinded-row (alone {m = m} {e = e} f) g h = ap (on_one matrix_literal) (kinded-lean f g h) ∙ alone-kinded m e (something f g h)

    kinded-list : {v t : Names Bool} {gs : Gens} → Ranging cells ok is_something true v gs t → (g : Names Ty) → TypesOf v g →
        (e : Ex) (m : Bool) → ((g' : Names Ty) → TypesOf t g' → kinded ds e g' ≡ (e, cell_kind m)) →
        kinded_under ds gs g (kinded ds e) ≡ (comp_ex e gs, list_kind m)
    kinded-list behind_all g h e m f = ap (λ b. (comp_ex b.0 no_gens, compound2 a_matrix int_ty b.1)) (f g h)
    kinded-list (over_truths {a = a} c s) g h e m f =
        ap (with_gen (λ hs. over (name_pat a) bool_dom hs)) (kinded-list s ((a, bool_ty) ∷ g) (more_types c h) e m f)
    kinded-list (over_numbers {a = a} {rs = rs} {es = es} {gs = gs} c b l s) g h e m f =
        ap (λ bs. with_gen (λ hs. over (name_pat a) (int_dom rs bs) hs) (kinded_under ds gs ((a, int_ty) ∷ g) (kinded ds e)))
        (kinded-bounds l g h)
        ∙ ap (with_gen (λ hs. over (name_pat a) (int_dom rs es) hs)) (kinded-list s ((a, int_ty) ∷ g) (more_types c h) e m f)
    kinded-list (under {c = c} {gs = gs} k s) g h e m f =
        ap (λ x. with_gen (λ hs. cond x.0 hs) (kinded_under ds gs g (kinded ds e))) (kinded-lean k g h)
        ∙ ap (with_gen (λ hs. cond c hs)) (kinded-list s g h e m f)
