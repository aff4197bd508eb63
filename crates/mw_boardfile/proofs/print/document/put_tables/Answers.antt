use Rattle.mw_boardfile.proofs.print.document.put_tables.Goals as goal

pub returns : goal.returns
returns c =
    rw (
      c.table_unless_empty-4.ensures,
      c.in_ok-fields.ensures,
      c.in_ok-put_given-4.ensures,
      c.list_unless_empty.ensures,
      c.in_ok-flipflop.ensures,
      c.in_ok-put_given-3.ensures,
      c.table_unless_empty-3.ensures,
      c.in_ok-control.ensures,
      c.in_ok-put_given-2.ensures,
      c.table_unless_empty-2.ensures,
      c.in_ok-select.ensures,
      c.in_ok-put_given.ensures,
      c.table_unless_empty.ensures,
      c.in_ok-map.ensures,
      c.as_slice.ensures,
      c.as_slice-named.ensures,
    ) at c.put_given-5.ensures
