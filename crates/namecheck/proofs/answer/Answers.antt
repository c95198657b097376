-- All that the library printed is written.
use Rattle.std.proofs.Common.{rules, ◌≡◌, ◌<◌, ◌≤◌, length, take, length-take-le}
use Rattle.std.proofs.lemmas.Result.{on_ok_weaker}
use Rattle.namecheck.proofs.Whole.{whole}
use Rattle.print_answer.proofs.Room.{print_whole}
use Rattle.namecheck.proofs.answer.Goals as goal

pub returns : goal.returns
returns g c =
    let read = c.in_ok-n.ensures in
    let size : length (take c.in_ok-n.n c.read_full.new.to) ≡ c.in_ok-n.n = length-take-le c.in_ok-n.n c.read_full.new.to read.fits in
    let short : length (take c.in_ok-n.n c.read_full.new.to) < 65_537 → c.in_ok-n.n < length c.read_full.new.to = λ h. search rules in
    let room : 524_288 ≤ length c.args.out.now = search rules in
    on_ok_weaker c.write_all.result (whole _ _ _ _ _ _ read.bytes (λ h. read.end (short h)) (print_whole (take c.in_ok-n.n c.read_full.new.to) _ _ _ room c.print-len.ensures)) c.write_all.ensures.bytes
