mod ReadDn
