use Rattle.std.proofs.Common.{length}
use Rattle.sd_ber.proofs.Lengths.{fewest_octets}
use Rattle.sd_ber.proofs.writing.write_tlv.Goals as goal

pub returns-then-is_err-clause-fewest : goal.returns-then-is_err-clause-fewest
returns-then-is_err-clause-fewest c = λ octets each h. fewest_octets (length c.args.body.now) octets each h

pub returns-clause-fewest : goal.returns-clause-fewest
returns-clause-fewest c = λ octets each h. fewest_octets (length c.args.body.now) octets each h
