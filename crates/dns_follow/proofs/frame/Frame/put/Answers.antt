use Rattle.std.proofs.Common.{rules, ◌≡◌, ◌+◌, ◌++◌, ◌∙◌, ap, sym, length}
use Rattle.std.specs.Int.{w16, w32, w64, to_be_bytes}
use Rattle.dns_follow.specs.Feed.{payload_of}
use Rattle.dns_follow.proofs.Payloads.{joined, payload_size}
use Rattle.dns_follow.proofs.frame.Frame.put.Goals as goal

pub returns-clause-ok : goal.returns-clause-ok
returns-clause-ok c =
    let size : c.extend_from_slice.new.self.items ≡ c.args.out.now.items ++ to_be_bytes w16 (17 + length c.args.self.now.bytes) = search rules in
    joined c.args.out.now.items c.extend_from_slice.new.self.items c.extend_from_slice-2.new.self.items c.extend_from_slice-3.new.self.items c.extend_from_slice-4.new.self.items c.push.new.self.items c.extend_from_slice-5.new.self.items
    (to_be_bytes w16 (length (payload_of c.args.self.now))) (to_be_bytes w64 c.args.self.now.id) (to_be_bytes w32 c.args.self.now.client) (to_be_bytes w32 c.args.self.now.serial) c.args.self.now.bytes c.args.self.now.mark
    (size ∙ ap (λ n. c.args.out.now.items ++ to_be_bytes w16 n) (sym (payload_size c.args.self.now))) (search rules) (search rules) (search rules) (search rules) (search rules)
