use Rattle.reg_lines.specs.Replies.{entry_json}
use Rattle.reg_lines.proofs.JoinedTexts.{◌▸◌}
use Rattle.reg_lines.proofs.printing.book_rows.EntryPrintJson.print_to.Goals as goal

pub returns : goal.returns
unfolding entry_json
returns g c =
    let domains = rw c.domains.ensures at c.print_to.ensures in
    let expiry = rw c.expiry.ensures at c.print_number.ensures in
    let hint = rw c.hint.ensures at c.print_to-2.ensures in
    let id = rw c.id.ensures at c.print_to-3.ensures in
    let identity = rw c.identity.ensures at c.print_to-4.ensures in
    let jwt = rw c.jwt_svid_ttl.ensures at c.put_lifetime.ensures in
    let parent = rw c.parent.ensures at c.print_to-5.ensures in
    let revision = rw c.revision.ensures at c.print_number-2.ensures in
    let selectors = rw c.selectors.ensures at c.print_to-6.ensures in
    let x509 = rw c.x509_svid_ttl.ensures at c.put_lifetime-2.ensures in
    c.put.ensures ▸ domains ▸ c.put-2.ensures ▸ expiry ▸ c.put-3.ensures ▸ hint ▸ c.put-4.ensures ▸ id ▸ c.put-5.ensures ▸ identity ▸ jwt ▸ c.put-6.ensures ▸ parent ▸ c.put-7.ensures ▸ revision ▸ c.put-8.ensures ▸ selectors ▸ x509 ▸ c.put-9.ensures
