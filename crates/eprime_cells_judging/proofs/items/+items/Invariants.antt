use Rattle.eprime_cells_laws.specs.TableReading.{items_over}
use Rattle.eprime_cells_judging.proofs.PuttingItems.{Left}
use Rattle.eprime_cells_judging.proofs.items.+items.Given as goal

abbrev pub invariant-put_all-loop-value : goal.invariant-put_all-loop-value
invariant-put_all-loop-value l = Left (items_over l.axes l.truths) l.values l.value-index l.initial.items l.items
