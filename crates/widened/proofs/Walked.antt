-- The walk over widened tables, by what is proved of a walk over tables of any rules. Assumes nothing.
use Rattle.meaning.proofs.Lists.{one_list}
use Rattle.listed.specs.Demands.{reports_after}
use Rattle.listed.proofs.Demands.{matches}
use Rattle.widened.specs.Walked.{WideMatches, ListKept}
use Rattle.widened.proofs.OneWord.{tables_kept}

pub wide-matches : WideMatches
wide-matches r b n live out x done few text reports bytes =
    matches r _ (record { tables = tables_kept r b n live out x done; few = few; bytes = bytes })

pub list_kept : ListKept
list_kept r w over m falls h a xs k l = one_list r w.text (reports_after w) xs m k ((matches r w over).demand2.finds m falls h a) l
