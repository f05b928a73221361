use Rattle.mot_commands.proofs.shown.add_object.Goals as goal

pub returns : goal.returns
returns c =
    rw (
      c.from.ensures,
      c.get.ensures.value,
      c.from-2.ensures,
      c.from-3.ensures,
      c.content_type.ensures.value,
      c.from-4.ensures,
      c.subtype.ensures.value,
      c.from-5.ensures,
      c.get-2.ensures.value,
      c.of_bytes.ensures,
      c.as_bytes.ensures.value,
      c.mime_value.ensures,
    ) at
    c.add_json_line.ensures
