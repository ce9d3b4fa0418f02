mod Rendered
