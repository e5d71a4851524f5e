-- What is written for a bare tree: it means what the tree means, is as models have it, and spells no more.
use Rattle.std.proofs.Common.{◌≡◌, refl, sym, ap, ◌∙◌, ℕ, ◌<◌, Bool, true, false, not, List, [], ℤ, pos, Option, le_refl, arith}
use Rattle.ess_semantics.specs.Values.{Text}
use Rattle.ess_semantics.specs.Order.{same_text}
use Rattle.ess_semantics.specs.Names.{Names}
use Rattle.ess_semantics.specs.Trees.{Ex, name_ex}
use Rattle.ess_semantics.specs.Tables.{Table}
use Rattle.ess_semantics.specs.DeclaredTables.{TableDecl}
use Rattle.ess_semantics.specs.Occurrences.{parts_of}
use Rattle.ess_semantics.specs.Meaning.{Env, meaning}
use Rattle.ess_semantics.specs.FreeNames.{FreeNamesAre}
use Rattle.ess_semantics.specs.ModelMeaning.{is_nothing, kinded, env_of_tables, model_value}
use Rattle.ess_rules_laws.specs.Rules.{IsTruth}
use Rattle.ess_rules_laws.proofs.Simulation.{E}
use Rattle.ess_simplify_laws.specs.Simplifying.{simplified}
use Rattle.ess_simplify_laws.proofs.WholeTrees.{simplifying-keeps}
use Rattle.ess_keys_laws.specs.Keyed.{nothing_around, keyed}
use Rattle.ess_keys_laws.proofs.Refined.{refined-keyable}
use Rattle.ess_keys_laws.proofs.Bound.{rel-nothing}
use Rattle.ess_keys_laws.proofs.Keying.{keyed-means}
use Rattle.conjure_model_laws.specs.Printed.{printed_name, binders}
use Rattle.ess_depth_laws.specs.Depth.{NestsWithin}
use Rattle.ess_depth_laws.proofs.Depths.{within-binders}
use Rattle.conjure_model_laws.proofs.PrintedLaws.{names-printed}
use Rattle.ess_bare_laws.specs.Bare.{Bare}
use Rattle.ess_bare_laws.specs.Lean.{Lean, Ended}
use Rattle.ess_bare_written_laws.specs.Laws.{as_written, AreDeclared, IsReady, IsEndedTree, BareTreesAreWritten, EndedTreesAreWritten}
use Rattle.ess_bare_written_laws.proofs.FromBare.{Of, from-bare, lean-spells, any-spell}
use Rattle.ess_bare_written_laws.proofs.FromEnded.{from-ended}
use Rattle.ess_bare_written_laws.proofs.Truths.{lean-truth, lean-truths, lean-meets}
use Rattle.ess_bare_written_laws.proofs.Simplifying.{simplified-lean}
use Rattle.ess_bare_written_laws.proofs.Scopes.{simplified-smaller}
use Rattle.ess_bare_written_laws.proofs.Keying.{keyed-lean, known-nothing}
use Rattle.ess_bare_written_laws.proofs.KeyedDepths.{keyed-nests}
use Rattle.ess_bare_written_laws.proofs.PrintedNames.{printed-something}
use Rattle.ess_bare_written_laws.proofs.Printing.{nothing_beside, printed-lean}
use Rattle.ess_bare_written_laws.proofs.PrintedByDepth.{no_values, printed-same}
use Rattle.ess_bare_written_laws.proofs.Forms.{lean-refined, lean-free, lean-same}
use Rattle.ess_bare_written_laws.proofs.KindedTrees.{is_something, no_types, kinded-lean}

-- Any number, and any name.
abbrev any : ℤ → Bool
any k = true

abbrev anyone : Text → Bool
anyone a = true

something-fine : (b : Bool) → b ≡ false → not b ≡ true
something-fine true q = cc
something-fine false q = refl

-- ---- without what is asked of names

module _ (cells : Text → Option (Bool × ℕ)) (ok : ℤ → Bool) (plain : Bool) {e : Ex} {m : Bool} (L : Lean cells ok anyone plain [] e m) where
  lean-closed : FreeNamesAre (λ a. false) e
  lean-closed = lean-free cells ok anyone plain L (λ a. false) (λ a m q. cc)

  lean-tables : (env there : Env) → env.cells ≡ there.cells → meaning e env ≡ meaning e there
  lean-tables env there q =
      lean-same cells ok anyone plain env.positions there.positions env.types there.types env.cells L env.vals there.vals (λ a m q. cc)
      ∙ ap (λ c. meaning e (E there.positions there.types c there.vals)) q

  -- Simplified it means the same.
  lean-simplified : (env : Env) → meaning e env ≡ meaning (simplified e) env
  lean-simplified env =
      (simplifying-keeps e env
      (lean-truths cells ok anyone plain env.positions env.types env.cells L env.vals (λ a q. cc))
      (lean-meets cells ok anyone plain env.positions env.types env.cells L env.vals)).0

ended-truths : (cells : Text → Option (Bool × ℕ)) (e : Ex) → Ended cells [] e true → (env : Env) → IsTruth (meaning e env)
ended-truths cells e b env = lean-truth cells any anyone false env.positions env.types env.cells b env.vals (λ a q. cc)

-- ---- what is written

module _ (cells : Text → Option (Bool × ℕ)) (taken : List Text) (e : Ex) (m : Bool) (R : IsEndedTree cells taken e m) where
  -- The steps.
  abbrev e1 : Ex
  e1 = simplified e

  abbrev e2 : Ex
  e2 = keyed nothing_around e1

  abbrev e3 : Ex
  e3 = simplified e2

  module _ (ok : ℤ → Bool) (zero_ok : ok (pos 0) ≡ true) (one_ok : ok (pos 1) ≡ true) (h : Of ok (parts_of e)) where
    L0 : Lean cells ok anyone false [] e m
    L0 = from-ended cells ok R.ended h

    L1 : Lean cells ok anyone false [] e1 m
    L1 = simplified-lean cells ok anyone false L0

    L2 : Lean cells ok anyone true [] e2 m
    L2 = keyed-lean cells ok anyone zero_ok one_ok R.unbound L1 R.around R.ranging nothing_around []
        (known-nothing cells ok anyone zero_ok one_ok R.unbound R.around)
        ((simplified-smaller R.unbound cells ok anyone false L0).scoped R.around R.ranging R.scoped)

    L3 : Lean cells ok anyone true [] e3 m
    L3 = simplified-lean cells ok anyone true L2

    nests3 : NestsWithin R.depth e3
    nests3 =
        (simplified-smaller R.unbound cells ok anyone true L2).nests R.depth
        (keyed-nests cells ok anyone false L1 nothing_around (λ a t x. cc) R.depth R.depth (le_refl R.depth)
        ((simplified-smaller R.unbound cells ok anyone false L0).nests R.depth R.nests))

    differ : (i j : ℕ) → i < j → j < R.depth → same_text (printed_name taken j) (printed_name taken i) ≡ false
    differ i j l n = let f = R.few in names-printed.differ taken i j l (omega (arith, n, f))

    printed_fine : (i : ℕ) → i < R.depth → is_something (printed_name taken i) ≡ true
    printed_fine i l = let f = R.few in
        something-fine (is_nothing (name_ex (printed_name taken i))) (printed-something taken i (omega (arith, l, f)))

    L4 : Lean cells ok is_something true [] (as_written taken e) m
    L4 = printed-lean taken R.depth differ cells ok anyone is_something true printed_fine L3 [] [] nothing_beside R.depth nests3
        (omega arith)

    -- It means what the tree means.
    written-means : (env : Env) → meaning (as_written taken e) env ≡ meaning e env
    written-means env =
        printed-same taken R.depth differ cells ok anyone true env.positions env.types env.cells L3 [] env.vals env.vals no_values R.depth
        nests3 (omega arith)
        ∙ sym (lean-simplified cells ok true L2 env)
        ∙ keyed-means env.positions env.types env.cells R.unbound e1 R.around R.ranging nothing_around env.vals env.vals
        (refined-keyable e1 (lean-refined cells ok anyone false L1))
        ((simplified-smaller R.unbound cells ok anyone false L0).scoped R.around R.ranging R.scoped)
        (rel-nothing env.positions env.types env.cells R.around env.vals)
        ∙ sym (lean-simplified cells ok false L0 env)

    -- It spells no more.
    written-spells : Of ok (parts_of (as_written taken e))
    written-spells = lean-spells ok cells is_something true L4

  pub means : (env : Env) → meaning (as_written taken e) env ≡ meaning e env
  means = written-means any refl refl (any-spell (parts_of e))

  module _ (ds : List TableDecl) (declared : AreDeclared ds cells) where
    pub stands : (kinded ds (as_written taken e) []).0 ≡ as_written taken e
    stands = ap (λ k. k.0) (kinded-lean cells any ds declared (L4 any refl refl (any-spell (parts_of e))) [] no_types)

    pub value : (tc : Names Table) (env : Env) → env.cells ≡ tc → model_value ds tc (as_written taken e) ≡ meaning e env
    value tc env q =
        ap (λ x. meaning x (env_of_tables tc)) stands ∙ means (env_of_tables tc)
        ∙ lean-tables cells any false R.ended (env_of_tables tc) env (sym q)

-- What is promised of trees that rules end in.
pub ended-trees-are-written : EndedTreesAreWritten
ended-trees-are-written = record {
  truths = ended-truths;
  tables = λ cells e m b. lean-tables cells any false b;
  means = means;
  stands = stands;
  value = value;
  spells = λ cells taken e m R q z o h. written-spells cells taken e m R q z o h;
}

-- ---- bare trees

-- Rules end in bare trees.
pub bare-ended : (cells : Text → Option (Bool × ℕ)) (r : Names Bool) (e : Ex) (m : Bool) → Bare cells r e m → Ended cells r e m
bare-ended cells r e m b = from-bare any cells anyone (λ a. refl) b (any-spell (parts_of e))

ready-ended : (cells : Text → Option (Bool × ℕ)) (taken : List Text) (e : Ex) (m : Bool) → IsReady cells taken e m →
    IsEndedTree cells taken e m
ready-ended cells taken e m R = record {
  ended = bare-ended cells [] e m R.bare;
  unbound = R.unbound;
  around = R.around;
  ranging = R.ranging;
  scoped = R.scoped;
  depth = binders e;
  nests = within-binders e;
  few = R.few;
}

-- What is promised of bare trees.
pub bare-trees-are-written : BareTreesAreWritten
bare-trees-are-written = record {
  truths = λ cells e b. ended-truths cells e (bare-ended cells [] e true b);
  tables = λ cells e m b. lean-tables cells any false (bare-ended cells [] e m b);
  means = λ cells taken e m R. means cells taken e m (ready-ended cells taken e m R);
  stands = λ cells taken e m R. stands cells taken e m (ready-ended cells taken e m R);
  value = λ cells taken e m R. value cells taken e m (ready-ended cells taken e m R);
  spells = λ cells taken e m R q z o h. written-spells cells taken e m (ready-ended cells taken e m R) q z o h;
}
