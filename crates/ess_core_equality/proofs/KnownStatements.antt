-- That `==` decides which statements and specifications are equal.
use Rattle.std.proofs.Common.{◌≡◌, refl, Bool, ◌&&◌, ◌↔◌, IsTrue}
use Rattle.std.specs.Cmp.Lexicographic.{pointwise}
use denote.Enum.Compared.{Each}
use Rattle.ess_core.specs.declared.statements.Stm.{Stm}
use Rattle.ess_core.specs.declared.statements.Spec.{Spec}
use Rattle.ess_core.specs.contracts.statements.Stm as stm_of
use Rattle.ess_core.specs.contracts.statements.StmPartialEq.TheImpl as stm_test
use Rattle.ess_core.specs.contracts.statements.SpecPartialEq.TheImpl as spec_test
use Rattle.ess_core_equality.proofs.Known.{Knows, decides, known_last, known_field, known_whole, known_text, known_texts, known_all, Chooses, here, later, later5, ◌▹◌, known_enum, text_same}
use Rattle.ess_core_equality.proofs.TreeLayers.{ex_same, dom_same}
use Rattle.ess_core_equality.proofs.KnownTrees.{known_ex, known_dom}

-- ---- the derived tests

abbrev pub stm_same : Stm → Stm → Bool
stm_same = stm_test.ghosts.eq

abbrev pub spec_same : Spec → Spec → Bool
spec_same = spec_test.ghosts.eq

abbrev stm_tests : Each Bool stm_of.enum.parts
stm_tests =
    (λ a b. text_same a.0 b.0 && dom_same a.1.0 b.1.0) ▹
    (λ a b. text_same a.0 b.0) ▹
    (λ a b. text_same a.0 b.0 && ex_same a.1.0 b.1.0) ▹
    (λ a b. text_same a.0 b.0 && dom_same a.1.0 b.1.0) ▹
    (λ a b. text_same a.0 b.0 && pointwise text_same a.1.0 b.1.0) ▹
    (λ a b. text_same a.0 b.0 && ex_same a.1.0 b.1.0) ▹
    (λ a b. ex_same a.0 b.0) ▹
    (λ a b. text_same a.0 b.0 && dom_same a.1.0 b.1.0) ▹
    (λ a b. ex_same a.0 b.0) ▹
    (λ a b. ex_same a.0 b.0) ▹
    (λ a b. ex_same a.0 b.0) ▹
    tt

-- ---- all values

layer_stm : (x : Stm) → Chooses stm_of.enum.parts stm_tests (stm_of.as_values x) → Knows stm_same x
layer_stm x k = known_enum stm_of.enum stm_tests (λ x y. refl) x k

pub known_stm : (x : Stm) → Knows stm_same x
known_stm (Stm.Given a b) = layer_stm _ (here (known_field (known_text a) (known_last (known_dom b))))
known_stm (Stm.GivenEnum a) = layer_stm _ (later (here (known_last (known_text a))))
known_stm (Stm.LetEx a b) = layer_stm _ (later (later (here (known_field (known_text a) (known_last (known_ex b))))))
known_stm (Stm.LetDom a b) = layer_stm _ (later (later (later (here (known_field (known_text a) (known_last (known_dom b)))))))
known_stm (Stm.LetEnum a b) = layer_stm _ (later (later (later (later (here (known_field (known_text a) (known_last (known_texts b))))))))
known_stm (Stm.LetUnnamed a b) = layer_stm _ (later5 (here (known_field (known_text a) (known_last (known_ex b)))))
known_stm (Stm.Needs a) = layer_stm _ (later5 (later (here (known_last (known_ex a)))))
known_stm (Stm.Find a b) = layer_stm _ (later5 (later (later (here (known_field (known_text a) (known_last (known_dom b)))))))
known_stm (Stm.SuchThat a) = layer_stm _ (later5 (later (later (later (here (known_last (known_ex a)))))))
known_stm (Stm.Minimise a) = layer_stm _ (later5 (later (later (later (later (here (known_last (known_ex a))))))))
known_stm (Stm.Maximise a) = layer_stm _ (later5 (later5 (here (known_last (known_ex a)))))

pub known_spec : (x : Spec) → Knows spec_same x
known_spec x = known_whole (λ s. (s.stms, tt)) (λ c. record { stms = c.0 }) (λ s. refl) (λ x y. refl) x (known_last (known_all known_stm x.stms))

pub decides_stm : (x y : Stm) → IsTrue (stm_same x y) ↔ (x ≡ y)
decides_stm x y = decides (known_stm x) y

pub decides_spec : (x y : Spec) → IsTrue (spec_same x y) ↔ (x ≡ y)
decides_spec x y = decides (known_spec x) y
