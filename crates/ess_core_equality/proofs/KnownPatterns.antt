-- That `==` decides which patterns are equal.
use Rattle.std.proofs.Common.{◌≡◌, sym, subst, Bool, ◌↔◌, IsTrue}
use Rattle.std.specs.Cmp.Lexicographic.{pointwise}
use denote.Enum.Declared.{Choice}
use denote.Enum.Compared.{Each}
use Rattle.ess_core_equality.proofs.Known.{Knows, Known, decides, known_last, known_text, known_row, Chooses, here, later, ◌▹◌, known_enum, text_same}
use Rattle.ess_core.specs.declared.expressions.Pat.{Pat}
use Rattle.ess_core.specs.declared.expressions.Pat.TheOpen.{Pat-F}
use Rattle.ess_core.specs.declared.expressions.Pat.TheBlock.{the_family, join-Pat}
use Rattle.ess_core.specs.declared.expressions.Pat.TheViews.{roll-Pat, whole-Pat, whole_is-Pat, parts_whole-Pat}
use Rattle.ess_core.specs.declared.expressions.Pat.TheFolds.{map-Pat, ind-Pat}
use Rattle.ess_core.specs.contracts.expressions.Pat as pat_of
use Rattle.ess_core.specs.contracts.expressions.PatPartialEq.TheImpl as pat_test
use Rattle.ess_core.specs.contracts.expressions.PatPartialEq.TheImpl.Laws as pat_laws

-- ---- the derived tests

abbrev pub pat_same : Pat → Pat → Bool
pat_same = pat_test.ghosts.eq

-- ---- one layer, with parts that are known

abbrev of_pat : Pat-F (Known Pat pat_same) → Pat-F Pat
of_pat = map-Pat _ _ (λ e. e.0)

abbrev pat_tests : Each Bool pat_of.enum.parts
pat_tests =
    (λ a b. text_same a.0 b.0) ▹
    (λ a b. pointwise pat_same a.0 b.0) ▹
    tt

layer_pat : (c : Choice pat_of.enum.parts) → Chooses pat_of.enum.parts pat_tests c → Knows pat_same (roll-Pat (join-Pat the_family c))
layer_pat c k = subst (Knows pat_same) (whole_is-Pat c) (known_enum pat_of.enum pat_tests pat_laws.is (whole-Pat c) (subst (Chooses pat_of.enum.parts pat_tests) (sym (parts_whole-Pat c)) k))

made_pat : (y : Pat-F (Known Pat pat_same)) → Knows pat_same (roll-Pat (of_pat y))
made_pat (Pat-F.Name a) = layer_pat _ (here (known_last (known_text a)))
made_pat (Pat-F.Tuple a) = layer_pat _ (later (here (known_last (known_row a))))

-- ---- all values

step_pat : (x : Pat-F Pat) (y : Pat-F (Known Pat pat_same)) → of_pat y ≡ x → Knows pat_same (roll-Pat x)
step_pat x y p = subst (λ z. Knows pat_same (roll-Pat z)) p (made_pat y)

pub known_pat : (x : Pat) → Knows pat_same x
known_pat = ind-Pat (Knows pat_same) step_pat

pub decides_pat : (x y : Pat) → IsTrue (pat_same x y) ↔ (x ≡ y)
decides_pat x y = decides (known_pat x) y
