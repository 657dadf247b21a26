-- A record that was taken: dropped where it is not live, else queued.
use mathlib.Core.Path.{◌≡◌, sym, ap, ◌∙◌}
use mathlib.Core.Bool.{Bool, true}
use mathlib.Core.List.{[], ◌++◌}
use Rattle.basics.specs.Lists.{keep}
use Rattle.heads.specs.declared.Taken.{Taken}
use Rattle.queue.specs.declared.Ring.{Ring}
use Rattle.std.specs.Prelude.{Option}
use Rattle.queue.specs.Ring.{Cells, record_of, waiting}
use Rattle.queue.specs.Deeds.{Pushes}
use Rattle.pulls.specs.Pulls.{slot_of, Keeps}

pub keeps_queued : (q : Ring) (c : Cells) (t : Taken) (p : Option Ring) (c' : Cells) → t.live ≡ true → Pushes q c (slot_of t) p c' → Keeps q c t p c'
keeps_queued q c t p c' e h = record {
  done = λ w i. record {
    fair = (h.done w i).fair;
    room = (h.done w i).room;
    chrom = (h.done w i).chrom;
    fewer = λ z. (h.done w i).fewer;
    more = (h.done w i).more ∙ ap (λ (v : Bool). waiting q c ++ keep v (record_of q.chrom (slot_of t)) []) (sym e);
  };
  full = λ i. record { lives = e; full = (h.full i).full; same = (h.full i).same };
}
