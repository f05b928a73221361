use Rattle.mot_directory.proofs.Appended.{header-appended}
use Rattle.mot_directory.proofs.Fits.{IsHeader-header}
use Rattle.mot_directory.proofs.header.append_header.Goals as goal
use Rattle.mot_objects.specs.declared.object.Object.{Object}

pub returns-clause-items : goal.returns-clause-items
returns-clause-items c =
    let o : Object = c.args.object.now in
    rw (
      c.append.ensures.items,
      c.append_mime.ensures.items,
      c.append_name.ensures.items,
      c.append_core.ensures.items,
    )
    (header-appended c.args.out.now.items o.name o.mime o.length o.version o.content
    c.header_size.result c.header_size.ensures.size)

pub returns-clause-fits : goal.returns-clause-fits
returns-clause-fits c =
    let o : Object = c.args.object.now in
    IsHeader-header o.name o.mime o.version o.content o.length c.append_name.ensures.short
    c.append_mime.ensures.short c.append_core.ensures.content_type c.append_core.ensures.subtype
    c.append_core.ensures.body
