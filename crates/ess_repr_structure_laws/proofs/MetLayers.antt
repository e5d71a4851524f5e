-- Tables meet the structure of a layer: at each place or slot those of its child, and where the layer's shape holds its view is tidy.
use Rattle.std.proofs.Common.{◌≡◌, refl, sym, ap, ◌∙◌, subst, ℕ, zero, suc, ◌+◌, ◌≤◌, ◌<◌, Bool, true, false, ◌&&◌, List, [], ◌∷◌, ◌++◌, map, take, drop, length, ℤ, pos, Some, option_map, arith, le_refl, append-nil, append_assoc}
use Rattle.ess_semantics.specs.Values.{Text, Value, number}
use Rattle.ess_semantics.specs.Order.{same_text}
use Rattle.ess_semantics.specs.Numbers.{run_from}
use Rattle.ess_semantics.specs.Operators.{as_truth}
use Rattle.ess_semantics.specs.Contexts.{Each, EachOf}
use Rattle.ess_semantics.specs.Trees.{both_ends, Repr, Ex, Exs, name_ex, no_gens, cond, Dom}
use Rattle.ess_semantics.specs.Domains.{Domain, integers, add_heads, lists_of}
use Rattle.ess_semantics.specs.Tables.{Tables, code, same_axes, is_filled}
use Rattle.ess_semantics.specs.Cells.{Axes, behind, cells_of}
use Rattle.ess_semantics.specs.Declarations.{declarations_below, axes_of}
use Rattle.ess_semantics.specs.Tidy.{over_axes, tidy_cells}
use Rattle.ess_semantics.specs.Meaning.{Env, meaning, meanings, indices, spans_of, members_in, tables_in}
use Rattle.ess_semantics.specs.Meets.{Meets, MeetsGens, tidy_in}
use Rattle.ess_semantics.proofs.Tests.{and-left, and-right, and-both}
use Rattle.ess_repr_laws.specs.CanonicalTables.{Right}
use Rattle.ess_repr_laws.specs.StructureParts.{add_ex, upto, row_gens, row_index, level_behind, each_ex, over_slots}
use Rattle.ess_repr_laws.specs.Structure.{shapes, structure}
use Rattle.ess_repr_laws.specs.StructureMeaning.{Bound, M, Number, AxesAre, DomainIs, Placed, axes_members}
use Rattle.ess_repr_laws.specs.ViewParts.{view_ex, shape_names}
use Rattle.ess_repr_laws.proofs.CanonicalForms.{right}
use Rattle.ess_repr_laws.proofs.CanonicalPlaces.{AllOf}
use Rattle.ess_repr_laws.proofs.StructureFits.{Fit}
use Rattle.ess_repr_laws.proofs.StructureOf.{StructureOf}
use Rattle.ess_repr_laws.proofs.StructureRows.{From, Steady, codes, all_codes, steady-name}
use Rattle.ess_repr_laws.proofs.StructureSlots.{members-ones}
use Rattle.ess_repr_laws.proofs.ViewsOfCells.{tables-found}
use Rattle.ess_repr_declare_laws.specs.SizeTerms.{size_terms}
use Rattle.ess_repr_structure_laws.proofs.BuiltStructures as B
use Rattle.ess_repr_structure_laws.proofs.MetParts as P
use Rattle.ess_repr_structure_laws.proofs.MetParts.{MetIn}

-- ---- tables behind further indices

drop-none : (A : Type 0) (n : ℕ) → drop {A = A} n [] ≡ []
drop-none A zero = refl
drop-none A (suc n) = refl

drop-both : (i js : List ℤ) (xs : Axes) → drop (length (i ++ js)) xs ≡ drop (length js) (drop (length i) xs)
drop-both [] js xs = refl
drop-both (k ∷ i) js [] = sym (drop-none (List ℤ) (length js))
drop-both (k ∷ i) js (x ∷ xs) = drop-both i js xs

same-drop : (n : ℕ) (bs : Axes) (xs a : Axes) → n ≡ length bs → same_axes xs (bs ++ a) ≡ true → same_axes (drop n xs) a ≡ true
same-drop zero [] xs a n h = h
same-drop zero (b ∷ bs) xs a n h = cc
same-drop (suc n) [] xs a m h = cc
same-drop (suc n) (b ∷ bs) [] a m h = cc
same-drop (suc n) (b ∷ bs) (x ∷ xs) a m h = let m' : n ≡ length bs = cc in same-drop n bs xs a m' (and-right _ (same_axes xs (bs ++ a)) h)

-- Tables over axes behind further ones are over them behind longer index lists.
pub over-inner : (bs : Axes) (i js : List ℤ) (ass : List Axes) (ts : Tables) → length js ≡ length bs →
    over_axes i (map (λ a. bs ++ a) ass) ts ≡ true → over_axes (i ++ js) ass ts ≡ true
over-inner bs i js [] [] n h = refl
over-inner bs i js [] (t ∷ ts) n h = cc
over-inner bs i js (a ∷ ass) [] n h = cc
over-inner bs i js (a ∷ ass) (t ∷ ts) n h =
    let one = and-left (is_filled t && same_axes (drop (length i) t.axes) (bs ++ a)) (over_axes i (map (λ a. bs ++ a) ass) ts) h in
    and-both (is_filled t && same_axes (drop (length (i ++ js)) t.axes) a) (over_axes (i ++ js) ass ts)
    (and-both (is_filled t) (same_axes (drop (length (i ++ js)) t.axes) a)
    (and-left (is_filled t) (same_axes (drop (length i) t.axes) (bs ++ a)) one)
    (ap (λ z. same_axes z a) (drop-both i js t.axes)
    ∙ same-drop (length js) bs (drop (length i) t.axes) a n (and-right (is_filled t) (same_axes (drop (length i) t.axes) (bs ++ a)) one)))
    (over-inner bs i js ass ts n (and-right (is_filled t && same_axes (drop (length i) t.axes) (bs ++ a))
    (over_axes i (map (λ a. bs ++ a) ass) ts) h))

-- Of tables side by side, those on each side are.
pub over-split : (i : List ℤ) (ass bss : List Axes) (ts : Tables) → over_axes i (ass ++ bss) ts ≡ true →
    (over_axes i ass (take (length ass) ts) ≡ true) × (over_axes i bss (drop (length ass) ts) ≡ true)
over-split i [] bss ts h = (refl, h)
over-split i (a ∷ ass) bss [] h = cc
over-split i (a ∷ ass) bss (t ∷ ts) h =
    let x = over-split i ass bss ts (and-right (is_filled t && same_axes (drop (length i) t.axes) a) (over_axes i (ass ++ bss) ts) h) in (
      and-both (is_filled t && same_axes (drop (length i) t.axes) a) (over_axes i ass (take (length ass) ts))
          (and-left (is_filled t && same_axes (drop (length i) t.axes) a) (over_axes i (ass ++ bss) ts) h) x.0,
      x.1,
    )

-- The lists over axes are as long as there are axes.
pub lists-long : (bs : Axes) → AllOf (lists_of bs) (λ js. length js ≡ length bs)
lists-long [] = (refl, tt)
lists-long (b ∷ bs) = go b (lists-long bs)
  where
    front : (k : ℤ) (ps ms : List (List ℤ)) → AllOf ps (λ js. length js ≡ length bs) → AllOf ms (λ js. length js ≡ suc (length bs)) →
        AllOf (map (λ p. k ∷ p) ps ++ ms) (λ js. length js ≡ suc (length bs))
    front k [] ms x y = y
    front k (p ∷ ps) ms x y = (ap suc x.0, front k ps ms x.1 y)

    go : (ks : List ℤ) → AllOf (lists_of bs) (λ js. length js ≡ length bs) → AllOf (add_heads ks (lists_of bs))
        (λ js. length js ≡ suc (length bs))
    go [] h = tt
    go (k ∷ ks) h = front k (lists_of bs) (add_heads ks (lists_of bs)) h (go ks h)

-- The names from the number l on.
abbrev pub name_from : ℕ → ℕ → ℕ
name_from l zero = l
name_from l (suc k) = suc (name_from l k)

pub from-low : (l k : ℕ) → l ≤ name_from l k
from-low l zero = le_refl l
from-low l (suc k) = let h = from-low l k in omega (arith, h)

module _ (env0 : Env) (q : ℕ → Text) (q-apart : (m l : ℕ) → l < m → same_text (q m) (q l) ≡ false) where
  abbrev Names : Type 0
  Names = Bound env0 q q-apart

  abbrev N : Names → Env
  N = M env0 q q-apart

  -- Whatever is bound.
  abbrev pub Always : Names → Type 0
  Always bs = Unit {0}

  -- Whatever is bound from q l on.
  pub record Later (l : ℕ) (bs ds : Names) : Type 0 where
    pub names : Names
    pub from : From env0 q q-apart l names
    pub are : ds ≡ names ++ bs

  pub later-more : (l : ℕ) (bs ds : Names) (k : ℕ) (v : Value) → Later l bs ds → Later l bs ((name_from l k, v) ∷ ds)
  later-more l bs ds k v h = record {
    names = (name_from l k, v) ∷ h.names;
    from = (from-low l k, h.from);
    are = ap
        (λ z. (name_from l k, v) ∷ z) h.are;
  }

  -- Tables meet the structures of the expression whatever is bound.
  abbrev pub G : Ex → Type 0
  G = P.W env0 q q-apart Always (λ k. k) (λ bs k v r. tt)

  -- Whatever is bound from q l on.
  abbrev pub H : ℕ → Names → Ex → Type 0
  H l bs = P.W env0 q q-apart (Later l bs) (name_from l) (later-more l bs)

  -- What holds always holds later.
  pub always-later : (l : ℕ) (bs : Names) (e : Ex) → G e → H l bs e
  always-later l bs e g = record { at = λ ds r. g.at ds tt }

  -- Here.
  pub here : {e : Ex} → G e → (bs : Names) → MetIn e (N bs)
  here g bs = record { met = g.at bs tt }

  pub here-later : {e : Ex} {l : ℕ} {bs : Names} → H l bs e → MetIn e (N bs)
  here-later {bs = bs} h = record { met = h.at bs (record { names = []; from = tt; are = refl }) }

  -- ---- views

  -- The view of tables that meet its structure is tidy.
  pub view-met : (r : Repr) (d : Dom) (e : Domain) → StructureOf env0 q q-apart size_terms r d e → DomainIs env0 q q-apart d e → B.DomHas G
      d →
      (out : Bool) (ns : List Text) (ts : Tables) (l : ℕ) (is : Exs) (i : List ℤ) (bs : Names) → Placed env0 q q-apart
      (shapes q size_terms r d ns) (axes_members r e) ts →
      Fit (declarations_below out r e) (behind i (cells_of ts)) → over_axes i (all_codes env0 q q-apart (axes_members r e)) ts ≡ true →
      Steady env0 q q-apart l is i bs → B.AllHave G is →
      as_truth (meaning (structure q size_terms r d ns l is) (N bs)) ≡ true → H l bs (view_ex r d (shapes q size_terms r d ns) is)
  view-met r d e s dm md out ns ts l is i bs p c o st ix t = record {
    at = λ ds x.
        let y : Later l bs ds = x in
        subst (λ z. Meets (view_ex r d (shapes q size_terms r d ns) is) (N z)) (sym y.are) (
          ap (λ o. tidy_in r o (tables_in env0.cells (shape_names (shapes q size_terms r d ns)))
              (indices (meanings is (N (y.names ++ bs))))) (dm (y.names ++ bs))
              ∙ ap (λ o. tidy_in r (Some e) o (indices (meanings is (N (y.names ++ bs)))))
              (tables-found env0 q q-apart (shapes q size_terms r d ns) (axes_members r e) ts p)
              ∙ ap (tidy_in r (Some e) (Some ts)) (st y.names y.from)
              ∙ and-both (over_axes i (axes_of r e) ts) (tidy_cells r e (behind i (cells_of ts)))
              (ap (λ a. over_axes i a ts) (sym s.axes) ∙ o) tidied,
          P.dom-met env0 q q-apart Always (λ k. k) (λ bs k v r. tt) d md (y.names ++ bs) tt,
          P.operands-met env0 q q-apart Always (λ k. k) (λ bs k v r. tt) false is ix (y.names ++ bs) tt,
        );
  }
    where
      tidied : tidy_cells r e (behind i (cells_of ts)) ≡ true
      tidied =
          let w : Right r e = right r e s.covered in
          w.tidies (behind i (cells_of ts)) (ap as_truth (sym (s.means out ns ts l is i bs p c st)) ∙ t)

  -- ---- places

  -- What tables meet at a place: whatever is bound so that the index list is that of the place.
  abbrev pub MetAt : ℕ → Exs → Ex → List ℤ → Type 0
  MetAt l is part js = (cs : Names) → Steady env0 q q-apart l is js cs → MetIn part (N cs)

  -- At each place.
  gens-met : (l : ℕ) (as' : List Dom) (vss : List (List Value)) (is : Exs) (i : List ℤ) (bs : Names) (part : Ex) → AxesAre env0 q q-apart
      as' vss → B.ListHas G as' →
      Steady env0 q q-apart l is i bs → AllOf (lists_of (codes env0 q q-apart vss))
      (λ js. MetAt (level_behind l as') (row_index q l as' is) part (i ++ js)) →
      MeetsGens (row_gens q l as') (N bs) (λ here. Meets part here)
  gens-met l [] [] is i bs part ax m st h = let x : MetIn part (N bs) = h.0 bs
      (subst (λ j. Steady env0 q q-apart l is j bs) (sym (append-nil i)) st) in x.met
  gens-met l [] (vs ∷ vss) is i bs part ax m st h = absurd ax
  gens-met l (a ∷ as') [] is i bs part ax m st h = absurd ax
  gens-met l (a ∷ as') (vs ∷ vss) is i bs part ax m st h = (
    P.dom-met env0 q q-apart Always (λ k. k) (λ bs k v r. tt) a m.0 bs tt,
    subst (λ o. EachOf o K) (sym (ax.0 bs)) (each vs h
        (λ u x. gens-met (suc l) as' vss (add_ex is (name_ex (q l))) (i ++ (code u ∷ [])) ((l, u) ∷ bs) part ax.1 m.1
        (steady-name env0 q q-apart l u is i bs st) x)),
  )
    where
      K : Value → Type 0
      K v = MeetsGens (row_gens q (suc l) as') (N ((l, v) ∷ bs)) (λ here. Meets part here)

      L : List (List ℤ)
      L = lists_of (codes env0 q q-apart vss)

      Here : List ℤ → Type 0
      Here js = MetAt (level_behind l (a ∷ as')) (row_index q l (a ∷ as') is) part js

      front : (k : ℤ) (ps ms : List (List ℤ)) → AllOf (map (λ p. k ∷ p) ps ++ ms) (λ js. Here (i ++ js)) → AllOf ps
          (λ js. Here ((i ++ (k ∷ [])) ++ js))
      front k [] ms h = tt
      front k (p ∷ ps) ms h = (subst Here (sym (append_assoc i (k ∷ []) p)) h.0, front k ps ms h.1)

      rest : (k : ℤ) (ps ms : List (List ℤ)) → AllOf (map (λ p. k ∷ p) ps ++ ms) (λ js. Here (i ++ js)) → AllOf ms (λ js. Here (i ++ js))
      rest k [] ms h = h
      rest k (p ∷ ps) ms h = rest k ps ms h.1

      each : (us : List Value) → AllOf (add_heads (map code us) L) (λ js. Here (i ++ js)) →
          ((u : Value) → AllOf L (λ js. Here ((i ++ (code u ∷ [])) ++ js)) → K u) → Each us K
      each [] h ih = tt
      each (u ∷ us) h ih = (
        ih u (front (code u) L (add_heads (map code us) L) h),
        each us (rest (code u) L (add_heads (map code us) L) h)
            ih,
      )

  pub each-met : (l : ℕ) (as' : List Dom) (vss : List (List Value)) (is : Exs) (i : List ℤ) (bs : Names) (part : Ex) → AxesAre env0 q
      q-apart as' vss → B.ListHas G as' →
      Steady env0 q q-apart l is i bs → AllOf (lists_of (codes env0 q q-apart vss))
      (λ js. MetAt (level_behind l as') (row_index q l as' is) part (i ++ js)) →
      MetIn (each_ex q l as' part) (N bs)
  each-met l as' vss is i bs part ax m st h = record { met = (gens-met l as' vss is i bs part ax m st h, tt) }

  -- ---- slots

  -- At each slot where the test holds.
  pub over-slots-met : (l : ℕ) (size test part : Ex) (s : ℕ) (bs : Names) → Number size (N bs) (pos s) → G size → G test →
      ((k : ℕ) → 1 ≤ k → k ≤ s → MetIn part (N ((l, number (pos k)) ∷ bs))) → MetIn (over_slots q l size test part) (N bs)
  over-slots-met l size test part s bs hs g t h = record {
    met = (
      (
        P.dom-met env0 q q-apart Always (λ k. k) (λ bs k v r. tt) (upto size) (record { at = λ cs r. tt }, (g, tt)) bs tt,
        subst (λ o. EachOf o K) (sym (ap (λ o. members_in
            (option_map integers (spans_of (both_ends ∷ []) (Some (number (pos 1)) ∷ o ∷ [])))) hs ∙ ap Some (members-ones s)))
            (run 1 s (λ k a b. h k a (omega (arith, b)))),
      ),
      tt,
    );
  }
    where
      K : Value → Type 0
      K v = MeetsGens (cond test no_gens) (N ((l, v) ∷ bs)) (λ here. Meets part here)

      run : (a n : ℕ) → ((k : ℕ) → a ≤ k → k < a + n → MetIn part (N ((l, number (pos k)) ∷ bs))) → Each (map number (run_from a n)) K
      run a zero f = tt
      run a (suc n) f = (
        (
          t.at ((l, number (pos a)) ∷ bs) tt,
          λ w. let x : MetIn part (N ((l, number (pos a)) ∷ bs)) = f a (omega arith) (omega arith) in
              x.met,
        ),
        run (suc a) n (λ k x y. f k (omega arith) (omega arith)),
      )
