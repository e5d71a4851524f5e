-- A domain whose free names aren't reserved means the same whatever reserved names are bound, and so do the numbers in it.
use Rattle.std.proofs.Common.{◌≡◌, refl, sym, ap, ◌∙◌, ℕ, ◌<◌, Bool, true, false, [], ◌∷◌, ◌++◌, map, Some, if◌then◌else◌}
use Rattle.ess_semantics.specs.Values.{Text, Value}
use Rattle.ess_semantics.specs.Order.{same_text}
use Rattle.ess_semantics.specs.Names.{look}
use Rattle.ess_semantics.specs.Trees.{Ex, Exs, no_exs, more_exs, Dom, Doms, bool_dom, int_dom, name_dom, tuple_dom, record_dom, matrix_dom, set_dom, mset_dom, function_dom, relation_dom, partition_dom, no_doms, more_doms}
use Rattle.ess_semantics.specs.FreeNames.{FreeNamesAre, FreeNamesAreExs, FreeNamesAreDom, FreeNamesAreDoms}
use Rattle.ess_semantics.specs.Meaning.{Env, as_int, domain_of, meaning}
use Rattle.ess_rules_laws.proofs.Agreement.{AgreeOn}
use Rattle.ess_rules_laws.proofs.FreeNames.{meaning-free, domain-free}
use Rattle.ess_semantics.specs.Meets.{MeetsDom}
use Rattle.ess_semantics.specs.Totality.{TotalDom}
use Rattle.ess_repr_structure_laws.proofs.FreeTotals.{total-dom-free, met-dom-free}
use Rattle.ess_repr_laws.specs.StructureMeaning.{AllNumbers, Bound, M}
use Rattle.ess_repr_structure_laws.specs.DomainNumbers.{NumbersIn, AllNumbersIn}

module _ (env0 : Env) (q : ℕ → Text) (q-apart : (m l : ℕ) → l < m → same_text (q m) (q l) ≡ false)
    (u : Text → Bool) (apart : (l : ℕ) (a : Text) → u a ≡ true → same_text (q l) a ≡ false) (bs : Bound env0 q q-apart) where
  abbrev B : Env
  B = M env0 q q-apart bs

  -- Names that aren't reserved have the values that they had.
  agree : (cs : Bound env0 q q-apart) → AgreeOn u (map (λ (b : ℕ × Value). (q b.0, b.1)) cs ++ env0.vals) env0.vals
  agree [] a t = refl
  agree (c ∷ cs) a t =
      ap (λ b. if b then Some c.1 else look (map (λ (b : ℕ × Value). (q b.0, b.1)) cs ++ env0.vals) a) (apart c.0 a t) ∙ agree cs a t

  same-meaning : (e : Ex) → FreeNamesAre u e → meaning e B ≡ meaning e env0
  same-meaning e f = meaning-free env0.positions env0.types env0.cells e u B.vals env0.vals f (agree bs)

  -- The domain is the same.
  pub same-domain : (d : Dom) → FreeNamesAreDom u d → domain_of d B ≡ domain_of d env0
  same-domain d f = domain-free env0.positions env0.types env0.cells d u B.vals env0.vals f (agree bs)

  -- It is total, and its structures are met, where they were.
  pub same-total : (d : Dom) → FreeNamesAreDom u d → TotalDom d env0 → TotalDom d B
  same-total d f t = total-dom-free env0.positions env0.types env0.cells d u env0.vals B.vals f (λ a h. sym (agree bs a h)) t

  pub same-met : (d : Dom) → FreeNamesAreDom u d → MeetsDom d env0 → MeetsDom d B
  same-met d f t = met-dom-free env0.positions env0.types env0.cells d u env0.vals B.vals f (λ a h. sym (agree bs a h)) t

  same-numbers : (es : Exs) → FreeNamesAreExs u es → AllNumbers es env0 → AllNumbers es B
  same-numbers no_exs f n = tt
  same-numbers (more_exs e es) f n = (
    λ z h. same-meaning e f.0 ∙ n.0 z (ap as_int (sym (same-meaning e f.0)) ∙ h),
    same-numbers es f.1 n.1,
  )

  mutual
    -- So are the numbers in it.
    pub numbers-same : (d : Dom) → FreeNamesAreDom u d → NumbersIn d env0 → NumbersIn d B
    numbers-same bool_dom f n = tt
    numbers-same (int_dom rs es) f n = same-numbers es f n
    numbers-same (name_dom a) f n = tt
    numbers-same (tuple_dom ds) f n = all-numbers-same ds f n
    numbers-same (record_dom fs ds) f n = all-numbers-same ds f n
    numbers-same (matrix_dom is d) f n = (all-numbers-same is f.0 n.0, numbers-same d f.1 n.1)
    numbers-same (set_dom ms es d) f n = (same-numbers es f.0 n.0, numbers-same d f.1 n.1)
    numbers-same (mset_dom ms es d) f n = (same-numbers es f.0 n.0, numbers-same d f.1 n.1)
    numbers-same (function_dom ms es d c) f n = (same-numbers es f.0 n.0, numbers-same d f.1 n.1, numbers-same c f.2 n.2)
    numbers-same (relation_dom ms es ds) f n = (same-numbers es f.0 n.0, all-numbers-same ds f.1 n.1)
    numbers-same (partition_dom ms es d) f n = (same-numbers es f.0 n.0, numbers-same d f.1 n.1)

    all-numbers-same : (ds : Doms) → FreeNamesAreDoms u ds → AllNumbersIn ds env0 → AllNumbersIn ds B
    all-numbers-same no_doms f n = tt
    all-numbers-same (more_doms d ds) f n = (numbers-same d f.0 n.0, all-numbers-same ds f.1 n.1)
